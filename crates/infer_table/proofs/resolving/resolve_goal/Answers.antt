use Rattle.std.proofs.Common.{◌≡◌, ap, ◌∙◌}
use Rattle.type_terms.specs.Promised.Handles.{trees_at}
use Rattle.type_terms.specs.Terms.{args_lists}
use Rattle.type_terms.specs.Kept.{has-later, trees-later}
use Rattle.infer_table.specs.Solutions.{resolved}
use Rattle.infer_table.specs.Content.{content}
use Rattle.infer_table.specs.Kept.{content-kept}
use Rattle.infer_table.specs.Goals.{environment_trees}
use Rattle.infer_table.proofs.Numbers.{clauses-held-later, environment-later, goal-same}
use Rattle.infer_table.proofs.Resolutions.{predicate-resolved}
use Rattle.infer_table.proofs.resolving.resolve_goal.Goals as goal

pub resolve_clauses-requires-clause-held : goal.resolve_clauses-requires-clause-held
resolve_clauses-requires-clause-held c = rw c.deref.ensures.value c.requires.held.environment

pub resolve_args-requires-clause-held : goal.resolve_args-requires-clause-held
resolve_args-requires-clause-held c = has-later c.args.cx.now.entries c.resolve_clauses.new.cx.entries c.resolve_clauses.ensures.terms.grew.keeps args_lists c.args.goal.now.predicate.trait_ref.args.0 c.requires.held.predicate

pub returns-clause-held : goal.returns-clause-held
returns-clause-held c = record {
  environment = clauses-held-later c.resolve_clauses.new.cx.entries c.resolve_args.new.cx.entries c.resolve_args.ensures.terms.grew.keeps c.in_ok-param_env.param_env.items c.in_ok-param_env.ensures.held;
  predicate = c.in_ok-resolved.ensures.held;
}

pub returns-clause-resolved : goal.returns-clause-resolved
returns-clause-resolved c =
    let es = c.args.cx.now.entries in
    let mid = c.resolve_clauses.new.cx.entries in
    let end = c.resolve_args.new.cx.entries in
    let k = c.resolve_clauses.ensures.terms.grew.keeps in
    let vs = c.args.table.now.values in
    let bs = content es vs in
    let p = c.args.goal.now.predicate.trait_ref in
    let env =
    environment-later mid end c.resolve_args.ensures.terms.grew.keeps c.in_ok-param_env.param_env.items c.in_ok-param_env.ensures.held
    ∙ c.in_ok-param_env.ensures.resolved ∙ ap (λ z. resolved bs (environment_trees es z)) c.deref.ensures.value in
    let is : trees_at end c.in_ok-resolved.resolved.0 ≡ resolved bs (trees_at es p.args.0) =
    c.in_ok-resolved.ensures.resolved ∙ ap (λ z. resolved z (trees_at mid p.args.0)) (content-kept es mid vs k c.requires.ready.held)
    ∙ ap (resolved bs) (trees-later es mid k args_lists p.args.0 c.requires.held.predicate) in
    goal-same _ _ _ _ env (predicate-resolved bs p.def_id.index (trees_at es p.args.0) (trees_at end c.in_ok-resolved.resolved.0) is)
