use Rattle.std.proofs.Common.{◌≡◌, []}
use Rattle.type_terms.specs.Promised.Handles.{arg_trees}
use Rattle.term_folds.specs.Folds.{FoldsEach}
use Rattle.type_terms.specs.Pieces.{one_piece}
use Rattle.infer_table.specs.Values.{values_of, filled_values, filling}
use Rattle.infer_table.proofs.Fillings.{filled-fold}
use Rattle.type_terms.proofs.FailFacts.{fold-at-limit}
use Rattle.goal_evaluator.proofs.trial.fill.Goals as goal
use Rattle.type_terms.proofs.TypeBasics.{if-ok}

pub returns-clause-filled : goal.returns-clause-filled
returns-clause-filled c =
    let es = c.args.cx.now.entries in
    let end = c.fold_with.new.cx.entries in
    let vs = values_of es c.args.values.now in
    let x = c.args.term in
    if-ok (λ a. FoldsEach (λ bs t. filling vs t) [] (one_piece (arg_trees es x)) (one_piece (arg_trees end a))) (λ a. arg_trees end a ≡ filled_values vs (arg_trees es x)) c.fold_with.result
    (λ a h. filled-fold vs _ _ h.1) c.fold_with.ensures.folded

pub returns-clause-terms : goal.returns-clause-terms
returns-clause-terms c = record {
  grew = c.fold_with.ensures.grew;
  full = fold-at-limit c.fold_with.result c.fold_with.ensures.full;
}
