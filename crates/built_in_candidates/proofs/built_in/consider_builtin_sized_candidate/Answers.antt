use Rattle.std.proofs.Common.{ap, ◌∙◌, subst}
use Rattle.type_terms.specs.Promised.Rules.{sized, sized_rules}
use Rattle.type_terms.specs.Promised.Handles.{types, trees_at}
use Rattle.type_terms.specs.Kept.{trees-is}
use Rattle.infer_table.proofs.Numbers.{goal-held-later}
use Rattle.goal_evaluator.specs.declared.candidate.CandidateSource.TheVariants.{BuiltinImpl}
use Rattle.goal_evaluator.specs.declared.candidate.BuiltinImplSource.TheVariants.{Trivial}
use Rattle.declarations.specs.Items.{written}
use Rattle.candidate_model.specs.Asking.{with_plain_head}
use Rattle.candidate_model.specs.Candidates.{as_written}
use Rattle.structural_traits.specs.Constituents.{AreConstituents, FitsFields}
use Rattle.built_in_candidates.proofs.Asking.{asked-later}
use Rattle.built_in_candidates.proofs.Heads.{applied-first, sized-first}
use Rattle.built_in_candidates.proofs.built_in.consider_builtin_sized_candidate.Goals as goal
use Rattle.type_terms.proofs.TypeBasics.{if-ok}

pub for_constituent_tys-requires-clause-goal : goal.for_constituent_tys-requires-clause-goal
for_constituent_tys-requires-clause-goal c =
    goal-held-later c.args.cx.now.entries c.instantiate_constituent_tys_for_sized_trait.new.cx.entries c.instantiate_constituent_tys_for_sized_trait.ensures.terms.grew.keeps c.args.goal.now.goal c.requires.goal

pub returns-clause-is : goal.returns-clause-is
returns-clause-is c =
    let old = c.args.cx.now.entries in
    let mid = c.instantiate_constituent_tys_for_sized_trait.new.cx.entries in
    let d = c.args.declarations.now in
    let V = written old d in
    let T = trees_at old c.args.goal.now.goal.predicate.trait_ref.args.0 in
    let S = trees_at old c.self_ty-self_ty.result.0 in
    let first = trees-is old types c.self_ty-self_ty.result.0 _ c.self_ty-self_ty.ensures.is in
    let fits : FitsFields old d S = record { fields = c.requires.fields; applied = applied-first d T S c.requires.first first c.requires.applied } in
    let are = subst (λ us. AreConstituents (λ v. v.items) mid sized us c.in_ok-tys.tys) (sized-first T S c.requires.first first V) (c.in_ok-tys.ensures.are (λ _. fits)) in
    if-ok _ _ c.for_constituent_tys.result
    (λ o is.
    is V (sized_rules V (with_plain_head T)) are
    ∙ ap (λ a. as_written V a (BuiltinImpl Trivial) (sized_rules V (with_plain_head T))) (asked-later old mid c.instantiate_constituent_tys_for_sized_trait.ensures.terms.grew.keeps c.args.goal.now c.requires.goal))
    c.for_constituent_tys.ensures.is
