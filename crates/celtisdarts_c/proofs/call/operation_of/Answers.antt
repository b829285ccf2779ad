use Rattle.celtisdarts_c.proofs.Calls.{number-asked, shape-asked}
use Rattle.celtisdarts_c.proofs.call.operation_of.Goals as goal

pub returns-in-Some-clause-is : goal.returns-in-Some-clause-is
returns-in-Some-clause-is c = shape-asked c.args.session.now.subject.declarations c.args.call.now c.args.ids c.in-Some.shape c.in-Some.ensures.number c.in-Some.ensures.above

pub returns-then-is_empty-clause-is : goal.returns-then-is_empty-clause-is
returns-then-is_empty-clause-is c =
    let o = c.in-Some-without_terms in
    number-asked c.args.session.now.subject.declarations c.args.call.now c.args.ids.now o.operation o.ensures.0 o.ensures.1
