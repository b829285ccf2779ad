use Rattle.std.proofs.Common.{ℕ, [], List, ap, subst, Err}
use Rattle.type_terms.specs.Promised.Trees.{Trees}
use Rattle.type_terms.specs.Promised.Handles.{trees_at}
use Rattle.type_terms.specs.Terms.{args_lists}
use Rattle.term_folds.specs.Folds.{Does, FoldsEach}
use Rattle.type_terms.specs.Kept.{has-later, trees-later}
use Rattle.type_terms.specs.Pieces.{one_piece}
use Rattle.infer_table.specs.Goals.{ClausesFold}
use Rattle.infer_table.proofs.Numbers.{clauses-held-later, clauses-fold-later}
use Rattle.infer_table.proofs.goal.Goal.fold_with.Goals as goal
use Rattle.type_terms.proofs.TypeBasics.{handed-on}
use Rattle.type_terms.proofs.ListBasics.{head}

pub fold_clauses-requires-clause-held : goal.fold_clauses-requires-clause-held
fold_clauses-requires-clause-held g c = rw c.deref.ensures.value c.requires.held.environment

pub fold_with-requires-clause-ready : goal.fold_with-requires-clause-ready
fold_with-requires-clause-ready g c = g.met.F.TypeFolder.ready_kept c.args.folder.now c.args.cx.now.entries c.fold_clauses.new.cx.entries c.fold_clauses.ensures.grew.keeps c.requires.ready

pub fold_with-requires-clause-held : goal.fold_with-requires-clause-held
fold_with-requires-clause-held g c = has-later c.args.cx.now.entries c.fold_clauses.new.cx.entries c.fold_clauses.ensures.grew.keeps args_lists c.args.self.now.predicate.trait_ref.args.0 c.requires.held.predicate

pub returns-clause-held : goal.returns-clause-held
returns-clause-held g c = record {
  environment = clauses-held-later c.fold_clauses.new.cx.entries c.fold_with.new.cx.entries c.fold_with.ensures.grew.keeps c.in_ok-param_env.param_env.items c.in_ok-param_env.ensures.held;
  predicate = c.in_ok-predicate.ensures.held;
}

pub returns-clause-folded : goal.returns-clause-folded
returns-clause-folded g c =
    let es = c.args.cx.now.entries in
    let mid = c.fold_clauses.new.cx.entries in
    let end = c.fold_with.new.cx.entries in
    let k = c.fold_clauses.ensures.grew.keeps in
    let f = g.F.TypeFolder.action c.args.folder.now es in
    let p = c.args.self.now.predicate.trait_ref.args.0 in
    let q = c.in_ok-predicate.predicate.trait_ref.args.0 in
    let after : ClausesFold f es c.args.self.now.param_env.items mid c.in_ok-param_env.param_env.items =
    subst (λ z. ClausesFold f es z mid c.in_ok-param_env.param_env.items) c.deref.ensures.value c.in_ok-param_env.ensures.folded in
    record {
      environment = clauses-fold-later f es mid end c.fold_with.ensures.grew.keeps c.args.self.now.param_env.items c.in_ok-param_env.param_env.items c.in_ok-param_env.ensures.held after;
      def_id = head _ _ c.in_ok-predicate.ensures.outline;
      predicate = subst (λ t. FoldsEach f [] (one_piece t) (one_piece (trees_at end q))) (trees-later es mid k args_lists p c.requires.held.predicate)
          (subst (λ (w : List ℕ → Trees → Does). FoldsEach w [] (one_piece (trees_at mid p)) (one_piece (trees_at end q))) (g.met.F.TypeFolder.action_kept c.args.folder.now es mid k c.requires.ready) c.in_ok-predicate.ensures.folded);
    }

pub returns-in_err-param_env-clause-full : goal.returns-in_err-param_env-clause-full
returns-in_err-param_env-clause-full g c = λ q. handed-on c.from_residual.result c.from_residual.ensures.1 (λ p. c.in_err-param_env.ensures.full (ap Err p)) q

pub returns-in_err-predicate-clause-full : goal.returns-in_err-predicate-clause-full
returns-in_err-predicate-clause-full g c = λ q. handed-on c.from_residual-in_err-predicate.result c.from_residual-in_err-predicate.ensures.1 (λ p. c.in_err-predicate.ensures.full (ap Err p)) q
