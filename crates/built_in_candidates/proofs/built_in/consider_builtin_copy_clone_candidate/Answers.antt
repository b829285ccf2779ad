use Rattle.std.proofs.Common.{subst}
use Rattle.type_terms.specs.Promised.Rules.{copy_rules}
use Rattle.type_terms.specs.Promised.Handles.{types, trees_at}
use Rattle.type_terms.specs.Kept.{trees-is}
use Rattle.candidate_model.specs.Asking.{with_plain_head}
use Rattle.structural_traits.specs.Constituents.{AreConstituents}
use Rattle.built_in_candidates.proofs.Heads.{copy-first}
use Rattle.built_in_candidates.proofs.built_in.consider_builtin_copy_clone_candidate.Goals as goal
use Rattle.type_terms.proofs.TypeBasics.{if-ok}

pub returns-clause-is : goal.returns-clause-is
returns-clause-is c =
    let old = c.args.cx.now.entries in
    let t = c.args.goal.now.goal.predicate.trait_ref.def_id.index in
    let T = trees_at old c.args.goal.now.goal.predicate.trait_ref.args.0 in
    let S = trees_at old c.self_ty-self_ty.result.0 in
    let first = trees-is old types c.self_ty-self_ty.result.0 _ c.self_ty-self_ty.ensures.is in
    let are = subst (λ us. AreConstituents (λ v. v.items) old t us c.in_ok-tys.tys) (copy-first T S c.requires.first first t) (c.in_ok-tys.ensures.are t) in
    if-ok _ _ c.for_constituent_tys.result (λ o is. λ V. is V (copy_rules t (with_plain_head T)) are) c.for_constituent_tys.ensures.is
