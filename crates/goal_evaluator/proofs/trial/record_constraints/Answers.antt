use Rattle.std.proofs.Common.{drop, sym, ◌∙◌, subst}
use Rattle.type_terms.specs.Kept.{args-held-later}
use Rattle.infer_table.specs.Content.{IsHeldConstraint}
use Rattle.infer_table.specs.Kept.{constraint-kept}
use Rattle.infer_table.specs.Unification.{table_trees}
use Rattle.infer_table.specs.Values.{values_of, values-later}
use Rattle.infer_table.proofs.ConstraintLists.{constraint-held-at}
use Rattle.infer_table.proofs.Values.{past-end}
use Rattle.goal_evaluator.proofs.Turns.{next-recorded, all-recorded}
use Rattle.goal_evaluator.proofs.trial.record_constraints.Goals as goal

pub record_constraint-requires-clause-values : goal.record_constraint-requires-clause-values
record_constraint-requires-clause-values c =
    args-held-later c.args.cx.now.entries c.loop-constraint.cx.entries c.loop-constraint.invariant.keeps c.args.values.now c.requires.values

pub record_constraint-requires-clause-constraint : goal.record_constraint-requires-clause-constraint
record_constraint-requires-clause-constraint c =
    let es = c.args.cx.now.entries in
    let x = c.constraint-item.result in
    let had : IsHeldConstraint es x = subst (IsHeldConstraint es) (sym c.constraint-item.is) (constraint-held-at es c.args.constraints.now c.loop-constraint.constraint-index x c.requires.constraints c.loop-constraint-test.true) in
    constraint-kept es c.loop-constraint.cx.entries x c.loop-constraint.invariant.keeps had

pub loop-constraint-preserved : goal.loop-constraint-preserved
loop-constraint-preserved c =
    let es = c.args.cx.now.entries in
    let now = c.loop-constraint.cx.entries in
    let inv = c.loop-constraint.invariant in
    let k = c.record_constraint.ensures.terms.grew.keeps in
    let xs = c.args.constraints.now in
    let i = c.loop-constraint.constraint-index in
    let x = c.constraint-item.result in
    let vs = c.args.values.now in
    let had : IsHeldConstraint es x = subst (IsHeldConstraint es) (sym c.constraint-item.is) (constraint-held-at es xs i x c.requires.constraints c.loop-constraint-test.true) in
    record {
      keeps = λ j e h. k j e (inv.keeps j e h);
      limit = c.record_constraint.ensures.terms.grew.limit ∙ inv.limit;
      ready = c.record_constraint.ensures.ready;
      left = next-recorded es now inv.keeps (values_of es vs) (values_of now vs) (values-later es now inv.keeps vs c.requires.values) xs i x c.loop-constraint-test.true c.constraint-item.is had
          (table_trees now c.loop-constraint.table) (table_trees c.record_constraint.new.cx.entries c.record_constraint.new.table) _ c.in_ok-record_constraint.ensures.recorded inv.left;
    }

pub returns-clause-recorded : goal.returns-clause-recorded
returns-clause-recorded c =
    let es = c.args.cx.now.entries in
    let xs = c.args.constraints.now in
    let i = c.loop-constraint.constraint-index in
    all-recorded es (values_of es c.args.values.now) (drop i xs) (table_trees c.loop-constraint.cx.entries c.loop-constraint.table) _ (past-end xs i c.loop-constraint-test.false) c.loop-constraint.invariant.left
