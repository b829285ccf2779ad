use Rattle.std.proofs.Common.{◌≡◌}
use Rattle.infer_table.specs.Goals.{goal_trees, GoalFolds}
use Rattle.infer_table.specs.Values.{values_of, filling, goal_filled}
use Rattle.infer_table.proofs.Fillings.{goal-filled}
use Rattle.type_terms.proofs.FailFacts.{fold-at-limit}
use Rattle.infer_table.proofs.instantiate.instantiate_with_values.Goals as goal
use Rattle.type_terms.proofs.TypeBasics.{if-ok}

pub returns-clause-filled : goal.returns-clause-filled
returns-clause-filled c =
    let es = c.args.cx.now.entries in
    let end = c.fold_with.new.cx.entries in
    let vs = values_of es c.args.values.now in
    let g = c.args.goal.now in
    if-ok (λ h. GoalFolds (λ bs t. filling vs t) es g end h) (λ h. goal_trees end h ≡ goal_filled vs (goal_trees es g)) c.fold_with.result (goal-filled vs es end g) c.fold_with.ensures.folded

pub returns-clause-terms : goal.returns-clause-terms
returns-clause-terms c = record {
  grew = c.fold_with.ensures.grew;
  full = fold-at-limit c.fold_with.result c.fold_with.ensures.full;
}
