use Rattle.std.proofs.Common.{sym, subst}
use Rattle.type_terms.specs.Kept.{args-held-later}
use Rattle.type_terms.proofs.Grown.{grew-none, grew-on}
use Rattle.infer_table.specs.Growth.{grows-trans, grows-refl}
use Rattle.goal_evaluator.specs.Readings.{EquationHeld}
use Rattle.goal_evaluator.proofs.Later.{equation-held-later}
use Rattle.goal_evaluator.proofs.Turns.{every-at}
use Rattle.explain_traces.proofs.opening.equate_all.Goals as goal

pub loop-equation-init : goal.loop-equation-init
loop-equation-init c = record { grew = grew-none; ready = c.requires.ready; grows = grows-refl c.args.table.now }

pub equate-requires-clause-values : goal.equate-requires-clause-values
equate-requires-clause-values c = args-held-later c.args.cx.now.entries c.loop-equation.cx.entries c.loop-equation.invariant.grew.keeps c.args.values.now c.requires.values

pub equate-requires-clause-equation : goal.equate-requires-clause-equation
equate-requires-clause-equation c =
    let es = c.args.cx.now.entries in
    let x = c.equation-item.result in
    let had : EquationHeld es x = subst (EquationHeld es) (sym c.equation-item.is) (every-at (EquationHeld es) c.args.equations.now c.loop-equation.equation-index x c.requires.equations c.loop-equation-test.true) in
    equation-held-later es c.loop-equation.cx.entries c.loop-equation.invariant.grew.keeps x had

pub loop-equation-preserved : goal.loop-equation-preserved
loop-equation-preserved c =
    let inv = c.loop-equation.invariant in
    let e = c.equate.ensures in
    record { grew = grew-on inv.grew e.grew; ready = e.ready; grows = grows-trans _ _ _ inv.grows e.grows }
