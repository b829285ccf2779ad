use Rattle.std.proofs.Common.{true, ap, ◌∙◌, Err}
use Rattle.type_terms.specs.Promised.Label.{of_trait, predicate}
use Rattle.type_terms.specs.Promised.Trees.{tree, none}
use Rattle.type_terms.specs.Terms.{args_lists}
use Rattle.type_terms.specs.Kept.{trees-later}
use Rattle.type_terms.proofs.Grown.{grew-on}
use Rattle.infer_table.specs.Canonical.{kind_in_clause, relabeled, canonical_label}
use Rattle.infer_table.specs.Goals.{environment_trees}
use Rattle.infer_table.specs.Leaves.{labels}
use Rattle.infer_table.specs.LeafLaws.{leaves-later, labels-later}
use Rattle.infer_table.proofs.Numbers.{clauses-held-later, environment-numbered, environment-later, goal-same}
use Rattle.type_terms.proofs.FailFacts.{only-tables, at-limit}
use Rattle.infer_table.proofs.input.number_leaves.Goals as goal

pub fold_clauses-requires-clause-ready : goal.fold_clauses-requires-clause-ready
fold_clauses-requires-clause-ready c = leaves-later c.args.cx.now.entries c.number_predicate.new.cx.entries c.number_predicate.ensures.terms.grew.keeps c.args.leaves.now.keys c.requires.listed

pub fold_clauses-requires-clause-held : goal.fold_clauses-requires-clause-held
fold_clauses-requires-clause-held c =
    rw c.deref.ensures.value (clauses-held-later c.args.cx.now.entries c.number_predicate.new.cx.entries c.number_predicate.ensures.terms.grew.keeps c.args.goal.now.param_env.items c.requires.goal.environment)

pub returns-clause-numbered : goal.returns-clause-numbered
returns-clause-numbered c =
    let es = c.args.cx.now.entries in
    let now = c.number_predicate.new.cx.entries in
    let end = c.fold_clauses.new.cx.entries in
    let keys = c.args.leaves.now.keys in
    let ls = labels es keys in
    let items = c.args.goal.now.param_env.items in
    let p = c.args.goal.now.predicate.trait_ref in
    let q = c.in_ok-predicate.predicate.trait_ref in
    let env =
    environment-numbered true (labels now keys) now end c.deref.result.now c.in_ok-param_env.param_env.items c.in_ok-param_env.ensures.folded
    ∙ ap (λ z. relabeled kind_in_clause (canonical_label z) (environment_trees now c.deref.result.now)) (labels-later es now c.number_predicate.ensures.terms.grew.keeps keys c.requires.listed)
    ∙ ap (λ z. relabeled kind_in_clause (canonical_label ls) (environment_trees now z)) c.deref.ensures.value
    ∙ ap (relabeled kind_in_clause (canonical_label ls)) (environment-later es now c.number_predicate.ensures.terms.grew.keeps items c.requires.goal.environment) in
    let pred =
    ap (λ z. tree (predicate (of_trait q.def_id.index)) z none) (trees-later now end c.fold_clauses.ensures.grew.keeps args_lists q.args.0 c.in_ok-predicate.ensures.held)
    ∙ c.in_ok-predicate.ensures.numbered in
    goal-same _ _ _ _ env pred

pub returns-in_err-param_env-clause-terms : goal.returns-in_err-param_env-clause-terms
returns-in_err-param_env-clause-terms c = record {
  grew = grew-on c.number_predicate.ensures.terms.grew c.fold_clauses.ensures.grew;
  full =
      at-limit c.from_residual-in_err-param_env.result c.from_residual-in_err-param_env.ensures.1 (λ p. only-tables (c.in_err-param_env.ensures.full (ap Err p)));
}
