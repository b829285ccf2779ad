use Rattle.type_terms.specs.Kept.{arg-held-later, args-held-later}
use Rattle.infer_table.specs.Growth.{grows-refl}
use Rattle.infer_table.specs.Kept.{ready-later}
use Rattle.explain_traces.proofs.opening.equate.Goals as goal

pub fill-requires-2-clause-values : goal.fill-requires-2-clause-values
fill-requires-2-clause-values c = args-held-later c.args.cx.now.entries c.fill.new.cx.entries c.fill.ensures.grew.keeps c.args.values.now c.requires.values

pub fill-requires-2-clause-term : goal.fill-requires-2-clause-term
fill-requires-2-clause-term c = arg-held-later c.args.cx.now.entries c.fill.new.cx.entries c.fill.ensures.grew.keeps c.args.equation.now.right c.requires.equation.1

pub returns-in_err-left-clause-ready : goal.returns-in_err-left-clause-ready
returns-in_err-left-clause-ready c = ready-later c.args.cx.now.entries c.fill.new.cx.entries c.args.table.now c.fill.ensures.grew.keeps c.requires.ready

pub returns-in_err-left-clause-grows : goal.returns-in_err-left-clause-grows
returns-in_err-left-clause-grows c = grows-refl c.args.table.now

pub returns-in_err-right-clause-ready : goal.returns-in_err-right-clause-ready
returns-in_err-right-clause-ready c =
    ready-later c.args.cx.now.entries c.fill-2.new.cx.entries c.args.table.now (λ i x h. c.fill-2.ensures.grew.keeps i x (c.fill.ensures.grew.keeps i x h)) c.requires.ready

pub returns-in_err-right-clause-grows : goal.returns-in_err-right-clause-grows
returns-in_err-right-clause-grows c = grows-refl c.args.table.now

pub eq-requires-clause-left : goal.eq-requires-clause-left
eq-requires-clause-left c = arg-held-later c.fill.new.cx.entries c.fill-2.new.cx.entries c.fill-2.ensures.grew.keeps c.in_ok-left.left c.in_ok-left.ensures.held

pub eq-requires-clause-ready : goal.eq-requires-clause-ready
eq-requires-clause-ready c =
    ready-later c.args.cx.now.entries c.fill-2.new.cx.entries c.args.table.now (λ i x h. c.fill-2.ensures.grew.keeps i x (c.fill.ensures.grew.keeps i x h)) c.requires.ready
