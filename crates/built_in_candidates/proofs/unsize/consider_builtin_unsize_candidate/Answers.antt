use Rattle.std.proofs.Common.{[], ◌∷◌, ap, sym, ◌∙◌, subst, option_map}
use Rattle.std.specs.Prelude.{◌==◌}
use Rattle.std.specs.List.{slice_get}
use Rattle.type_terms.specs.Promised.Rules.{is_coinductive, unsize}
use Rattle.type_terms.specs.Promised.Handles.{types, trees_at}
use Rattle.type_terms.specs.Kept.{trees-is, trees-later}
use Rattle.term_folds.specs.Signatures.{StartsWithType}
use Rattle.declarations.specs.Items.{written}
use Rattle.candidate_model.specs.Asking.{begins_unknown, self_of}
use Rattle.candidate_model.specs.Candidates.{recording, lifetime_of, outlives, unsizing_outlives, unsize_known}
use Rattle.infer_table.proofs.BindFacts.{type-is}
use Rattle.built_in_candidates.specs.Goals.{asked_of, candidate_of}
use Rattle.built_in_candidates.proofs.Heads.{applied-first}
use Rattle.built_in_candidates.proofs.Lifetimes.{goal-outlives, recorded-at}
use Rattle.built_in_candidates.proofs.Objects.{object-first}
use Rattle.built_in_candidates.proofs.UnsizeRows.{known-goal, target-unknown, target-applied, next-plain, of-other-trait, of-unknown, of-known}
use Rattle.built_in_candidates.proofs.unsize.consider_builtin_unsize_candidate.Goals as goal
use Rattle.type_terms.proofs.TypeBasics.{if-ok}

pub unsizing_target-target-requires-clause-first : goal.unsizing_target-target-requires-clause-first
unsizing_target-target-requires-clause-first c =
    let es = c.args.cx.now.entries in
    let T = trees_at es c.args.goal.now.goal.predicate.trait_ref.args.0 in
    let can = c.requires.unsizing (ap (λ t. t == unsize) c.if-def_id-ne-UNSIZE.false) in
    subst StartsWithType (sym (next-plain T c.requires.considered.first)) can.target

pub returns-then-def_id-ne-UNSIZE-clause-is : goal.returns-then-def_id-ne-UNSIZE-clause-is
returns-then-def_id-ne-UNSIZE-clause-is c =
    let es = c.args.cx.now.entries in
    ap (λ l. slice_get l c.args.place) (of-other-trait (written es c.args.declarations.now) (asked_of es c.args.goal.now) c.if-def_id-ne-UNSIZE.true)

pub unsize_to-requires-clause-applied : goal.unsize_to-requires-clause-applied
unsize_to-requires-clause-applied c =
    let es = c.args.cx.now.entries in
    let T = trees_at es c.args.goal.now.goal.predicate.trait_ref.args.0 in
    let first = trees-is es types c.self_ty-self_ty.result.0 _ c.self_ty-self_ty.ensures.is in
    applied-first c.args.declarations.now T (trees_at es c.self_ty-self_ty.result.0) c.requires.considered.first first c.requires.considered.applied

pub unsize_to-requires-clause-object : goal.unsize_to-requires-clause-object
unsize_to-requires-clause-object c =
    let es = c.args.cx.now.entries in
    let T = trees_at es c.args.goal.now.goal.predicate.trait_ref.args.0 in
    let first = trees-is es types c.self_ty-self_ty.result.0 _ c.self_ty-self_ty.ensures.is in
    object-first c.args.declarations.now T (trees_at es c.self_ty-self_ty.result.0) c.requires.considered.first first c.requires.object

pub unsize_to-requires-clause-target_applied : goal.unsize_to-requires-clause-target_applied
unsize_to-requires-clause-target_applied c =
    let es = c.args.cx.now.entries in
    let T = trees_at es c.args.goal.now.goal.predicate.trait_ref.args.0 in
    let S = trees_at es c.self_ty-self_ty.result.0 in
    let X = trees_at es c.unsizing_target-target.result.0 in
    let first = trees-is es types c.self_ty-self_ty.result.0 _ c.self_ty-self_ty.ensures.is in
    let can = c.requires.unsizing (ap (λ t. t == unsize) c.if-def_id-ne-UNSIZE.false) in
    target-applied c.args.declarations.now T S X c.requires.considered.first first (type-is es c.lawful.ensures c.unsizing_target-target.result.0 c.unsizing_target-target.ensures.held) c.unsizing_target-target.ensures.is can.applied

pub returns-then-is_unknown-clause-is : goal.returns-then-is_unknown-clause-is
returns-then-is_unknown-clause-is c =
    let es = c.args.cx.now.entries in
    let V = written es c.args.declarations.now in
    let g = c.args.goal.now in
    let a = asked_of es g in
    let T = trees_at es g.goal.predicate.trait_ref.args.0 in
    let X = trees_at es c.unsizing_target-target.result.0 in
    let unknown = sym (target-unknown a.kinds T X c.requires.considered.first (type-is es c.lawful.ensures c.unsizing_target-target.result.0 c.unsizing_target-target.ensures.held) c.unsizing_target-target.ensures.is)
    ∙ ap (λ ks. begins_unknown ks X) (sym c.deref.ensures.value) ∙ sym c.is_unknown.ensures ∙ c.if-is_unknown.true in
    c.at_place.ensures.is V a.reference.trait es
    ∙ ap (λ l. slice_get l c.args.place)
    (ap (λ s. s ∷ []) (c.unsure.ensures.is es (is_coinductive V a.reference.trait)) ∙ of-unknown V a c.if-def_id-ne-UNSIZE.false unknown)

pub returns-clause-is : goal.returns-clause-is
returns-clause-is c =
    let es = c.args.cx.now.entries in
    let V = written es c.args.declarations.now in
    let g = c.args.goal.now in
    let a = asked_of es g in
    let T = trees_at es g.goal.predicate.trait_ref.args.0 in
    let S = trees_at es c.self_ty-self_ty.result.0 in
    let X = trees_at es c.unsizing_target-target.result.0 in
    let first = trees-is es types c.self_ty-self_ty.result.0 _ c.self_ty-self_ty.ensures.is in
    let one = type-is es c.lawful.ensures c.unsizing_target-target.result.0 c.unsizing_target-target.ensures.held in
    let starts = c.requires.considered.first in
    let known = sym (target-unknown a.kinds T X starts one c.unsizing_target-target.ensures.is) ∙ ap (λ ks. begins_unknown ks X) (sym c.deref.ensures.value) ∙ sym c.is_unknown.ensures ∙ c.if-is_unknown.false in
    let new = c.unsize_to.new.cx.entries in
    let kept = c.unsize_to.ensures.terms.grew.keeps in
    let t = a.reference.trait in
    let same-self = trees-later es new kept types c.self_ty-self_ty.result.0 (_, c.self_ty-self_ty.ensures.is) in
    let same-target = trees-later es new kept types c.unsizing_target-target.result.0 c.unsizing_target-target.ensures.held in
    let says = ap (λ s. outlives s (lifetime_of s) (lifetime_of (trees_at new c.unsizing_target-target.result.0))) same-self ∙ ap (λ x. outlives S (lifetime_of S) (lifetime_of x)) same-target
    ∙ goal-outlives T S X starts first one c.unsizing_target-target.ensures.is in
    if-ok _ _ c.recording_outlives.result
    (λ o is.
    is V t ∙ ap (λ r. option_map (recording r) (option_map (candidate_of V t new) c.in_ok-candidate.candidate)) says
    ∙ ap (option_map (recording (unsizing_outlives T)))
    (c.in_ok-candidate.ensures.is ∙ ap (λ l. slice_get l c.args.place) (known-goal V a T S X starts first one c.unsizing_target-target.ensures.is))
    ∙ recorded-at (unsizing_outlives T) (unsize_known V a (self_of a)) c.args.place ∙ ap (λ l. slice_get l c.args.place) (of-known V a c.if-def_id-ne-UNSIZE.false known))
    c.recording_outlives.ensures.is

pub returns-then-is_unknown-clause-held : goal.returns-then-is_unknown-clause-held
returns-then-is_unknown-clause-held c = c.at_place.ensures.held c.args.cx.now.entries (c.unsure.ensures.held c.args.cx.now.entries)
