use Rattle.std.proofs.Common.{drop, sym, ◌∙◌, subst}
use Rattle.type_terms.specs.Kept.{args-held-later}
use Rattle.infer_table.specs.Unification.{table_trees}
use Rattle.infer_table.specs.Values.{values_of, values-later}
use Rattle.infer_table.proofs.Values.{past-end}
use Rattle.goal_evaluator.specs.Readings.{EquationHeld}
use Rattle.goal_evaluator.proofs.Handed.{same-error}
use Rattle.goal_evaluator.proofs.Later.{equation-held-later}
use Rattle.goal_evaluator.proofs.Turns.{every-at, next-solved, next-refused, all-solved}
use Rattle.goal_evaluator.proofs.trial.equate_all.Goals as goal

pub equate-requires-clause-values : goal.equate-requires-clause-values
equate-requires-clause-values c = args-held-later c.args.cx.now.entries c.loop-equation.cx.entries c.loop-equation.invariant.keeps c.args.values.now c.requires.values

pub equate-requires-clause-equation : goal.equate-requires-clause-equation
equate-requires-clause-equation c =
    let es = c.args.cx.now.entries in
    let x = c.equation-item.result in
    let had : EquationHeld es x = subst (EquationHeld es) (sym c.equation-item.is) (every-at (EquationHeld es) c.args.equations.now c.loop-equation.equation-index x c.requires.equations c.loop-equation-test.true) in
    equation-held-later es c.loop-equation.cx.entries c.loop-equation.invariant.keeps x had

pub loop-equation-preserved : goal.loop-equation-preserved
loop-equation-preserved c =
    let es = c.args.cx.now.entries in
    let now = c.loop-equation.cx.entries in
    let inv = c.loop-equation.invariant in
    let k = c.equate.ensures.terms.grew.keeps in
    let xs = c.args.equations.now in
    let i = c.loop-equation.equation-index in
    let x = c.equation-item.result in
    let vs = c.args.values.now in
    let had : EquationHeld es x = subst (EquationHeld es) (sym c.equation-item.is) (every-at (EquationHeld es) xs i x c.requires.equations c.loop-equation-test.true) in
    record {
      keeps = λ j e h. k j e (inv.keeps j e h);
      limit = c.equate.ensures.terms.grew.limit ∙ inv.limit;
      ready = c.equate.ensures.ready;
      left = next-solved es now inv.keeps (values_of es vs) (values_of now vs) (values-later es now inv.keeps vs c.requires.values) xs i x c.loop-equation-test.true c.equation-item.is had
          (table_trees now c.loop-equation.table) (table_trees c.equate.new.cx.entries c.equate.new.table) _ c.in_ok-equate.ensures.solved inv.left;
    }

pub returns-in_err-equate-clause-refused : goal.returns-in_err-equate-clause-refused
returns-in_err-equate-clause-refused c = λ q.
    let es = c.args.cx.now.entries in
    let now = c.loop-equation.cx.entries in
    let inv = c.loop-equation.invariant in
    let xs = c.args.equations.now in
    let i = c.loop-equation.equation-index in
    let x = c.equation-item.result in
    let vs = c.args.values.now in
    let had : EquationHeld es x = subst (EquationHeld es) (sym c.equation-item.is) (every-at (EquationHeld es) xs i x c.requires.equations c.loop-equation-test.true) in
    next-refused es now inv.keeps (values_of es vs) (values_of now vs) (values-later es now inv.keeps vs c.requires.values) xs i x c.loop-equation-test.true c.equation-item.is had
    (table_trees now c.loop-equation.table) _ (c.equate.ensures.refused (same-error c.equate.result c.from_residual.result _ _ c.in_err-equate.was c.from_residual.ensures.1 q)) inv.left

pub returns-clause-solved : goal.returns-clause-solved
returns-clause-solved c =
    let es = c.args.cx.now.entries in
    let xs = c.args.equations.now in
    let i = c.loop-equation.equation-index in
    all-solved es (values_of es c.args.values.now) (drop i xs) (table_trees c.loop-equation.cx.entries c.loop-equation.table) _ (past-end xs i c.loop-equation-test.false) c.loop-equation.invariant.left
