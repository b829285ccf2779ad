use Rattle.std.proofs.Common.{◌≡◌, [], ◌∷◌, ap, sym, ◌∙◌, Err}
use Rattle.indexmap.specs.IndexSet.{insert_key}
use Rattle.infer_table.specs.Constraints.{constraints_trees}
use Rattle.infer_table.specs.Kept.{ready-later}
use Rattle.infer_table.specs.Unification.{table_trees}
use Rattle.infer_table.proofs.PairFacts.{table-kept}
use Rattle.infer_table.specs.Values.{values_of, filled_values}
use Rattle.infer_table.specs.Applied.{with_constraints}
use Rattle.infer_table.specs.contracts.terms.RegionConstraintPartialEq.TheImpl.{ghosts as constraint}
use Rattle.infer_table.proofs.ConstraintLists.{constraints-filled}
use Rattle.infer_table.proofs.Recording.{constraints-recorded}
use Rattle.goal_evaluator.proofs.Handed.{on-ok}
use Rattle.type_terms.proofs.FailFacts.{only-tables, at-limit}
use Rattle.goal_evaluator.proofs.trial.record_constraint.Goals as goal

pub returns-in_err-constraint-clause-ready : goal.returns-in_err-constraint-clause-ready
returns-in_err-constraint-clause-ready c = ready-later c.args.cx.now.entries c.fold_with.new.cx.entries c.args.table.now c.fold_with.ensures.grew.keeps c.requires.ready

pub returns-clause-ready : goal.returns-clause-ready
returns-clause-ready c =
    let end = c.fold_with.new.cx.entries in
    c.register_region_constraint.ensures.ready end (ready-later c.args.cx.now.entries end c.args.table.now c.fold_with.ensures.grew.keeps c.requires.ready) c.in_ok-constraint.ensures.held

pub returns-clause-recorded : goal.returns-clause-recorded
returns-clause-recorded c =
    let es = c.args.cx.now.entries in
    let end = c.fold_with.new.cx.entries in
    let t = c.args.table.now in
    let u = c.register_region_constraint.new.self in
    let x = c.args.constraint in
    let y = c.in_ok-constraint.constraint in
    let vs = values_of es c.args.values.now in
    let put = constraints-filled vs es end (x ∷ []) (y ∷ []) (c.in_ok-constraint.ensures.outline, c.in_ok-constraint.ensures.folded, tt) in
    let ready = ready-later es end t c.fold_with.ensures.grew.keeps c.requires.ready in
    on-ok (u ≡ record t { constraints = insert_key constraint.eq t.constraints y }) (table_trees end u ≡ with_constraints (filled_values vs (constraints_trees es (x ∷ []))) (table_trees es t)) c.register_region_constraint.result
    (λ e. sym (constraints-recorded end c.lawful.ensures t u (y ∷ []) _ ready (c.in_ok-constraint.ensures.held, tt) e put) ∙ ap (with_constraints (filled_values vs (constraints_trees es (x ∷ [])))) (table-kept es end c.fold_with.ensures.grew.keeps t c.requires.ready))
    c.register_region_constraint.ensures.recorded

pub returns-in_err-constraint-clause-terms : goal.returns-in_err-constraint-clause-terms
returns-in_err-constraint-clause-terms c = record {
  grew = c.fold_with.ensures.grew;
  full = at-limit c.from_residual.result c.from_residual.ensures.1 (λ p. only-tables (c.in_err-constraint.ensures.full (ap Err p)));
}
