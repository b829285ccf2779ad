use Rattle.std.proofs.Common.{◌↔◌, IsTrue}
use Rattle.infer_table.specs.Inputs.{AreEqual}
use Rattle.infer_table.proofs.Questions.{input-eq, equal-renamings}
use Rattle.infer_table.proofs.input.is_same_question.Goals as goal

pub returns-clause-equal : goal.returns-clause-equal
returns-clause-equal c = rw c.eq.ensures (input-eq c.args.left.now c.args.right.now)

pub returns-clause-renaming : goal.returns-clause-renaming
returns-clause-renaming c = λ g h ng nh ia ib.
    let a = c.args.left.now in
    let b = c.args.right.now in
    let e : IsTrue c.eq.result ↔ AreEqual a b = rw c.eq.ensures (input-eq a b) in
    let q = equal-renamings c.args.cx.now.entries c.lawful.ensures g h a b ng.environment ng.predicate nh.environment nh.predicate ia ib in
    (λ t. q.0 (e.0 t), λ r. e.1 (q.1 r))
