use Rattle.std.proofs.Common.{sym, subst}
use Rattle.type_terms.specs.Promised.Handles.{ArgsHeld}
use Rattle.type_terms.specs.Kept.{args-held-later}
use Rattle.infer_table.specs.Kept.{ready-later}
use Rattle.goal_evaluator.specs.Lists.{Every}
use Rattle.goal_evaluator.specs.Readings.{EquationHeld}
use Rattle.goal_evaluator.proofs.Later.{equations-held-later}
use Rattle.explain_traces.proofs.Opened.{NestedGoalHeld, nested-later}
use Rattle.explain_traces.proofs.opening.open_candidate.Goals as goal

pub equate_all-requires-clause-equations : goal.equate_all-requires-clause-equations
equate_all-requires-clause-equations c =
    subst (Every (EquationHeld c.values_of.new.cx.entries)) (sym c.deref-2.ensures.value)
    (equations-held-later c.args.cx.now.entries c.values_of.new.cx.entries c.values_of.ensures.grew.keeps c.args.spec.now.equations.items c.requires.spec.equations)

pub fill_goals-requires-clause-goals : goal.fill_goals-requires-clause-goals
fill_goals-requires-clause-goals c =
    subst (Every (NestedGoalHeld c.equate_all.new.cx.entries)) (sym c.deref-4.ensures.value)
    (nested-later c.args.cx.now.entries c.equate_all.new.cx.entries (λ i x h. c.equate_all.ensures.grew.keeps i x (c.values_of.ensures.grew.keeps i x h)) c.args.spec.now.nested_goals.items c.requires.spec.nested)

pub fill_goals-requires-clause-values : goal.fill_goals-requires-clause-values
fill_goals-requires-clause-values c =
    subst (ArgsHeld c.equate_all.new.cx.entries) (sym c.deref-3.ensures.value)
    (args-held-later c.values_of.new.cx.entries c.equate_all.new.cx.entries c.equate_all.ensures.grew.keeps c.in_ok-all.all.items c.in_ok-all.ensures.held)

pub returns-in_err-goals-clause-ready : goal.returns-in_err-goals-clause-ready
returns-in_err-goals-clause-ready c = ready-later c.equate_all.new.cx.entries c.fill_goals.new.cx.entries c.equate_all.new.table c.fill_goals.ensures.grew.keeps c.equate_all.ensures.ready

pub returns-clause-ready : goal.returns-clause-ready
returns-clause-ready c = ready-later c.equate_all.new.cx.entries c.fill_goals.new.cx.entries c.equate_all.new.table c.fill_goals.ensures.grew.keeps c.equate_all.ensures.ready
