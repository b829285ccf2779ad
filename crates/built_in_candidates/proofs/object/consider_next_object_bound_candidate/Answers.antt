use Rattle.std.proofs.Common.{◌≡◌, suc, sym, ap, ◌∙◌, subst, Some}
use Rattle.std.specs.Prelude.{option_map}
use Rattle.type_terms.specs.Promised.Trees.{leaf, ◌+++◌}
use Rattle.type_terms.specs.Promised.Worlds.{World}
use Rattle.type_terms.specs.Promised.Handles.{types, trees_at}
use Rattle.type_terms.specs.Kept.{trees-is}
use Rattle.infer_table.proofs.Numbers.{goal-held-later}
use Rattle.goal_evaluator.specs.declared.candidate.CandidateSource.TheVariants.{BuiltinImpl}
use Rattle.declarations.specs.Items.{reference_in, written}
use Rattle.declarations.specs.Promised.Elaboration.{Each}
use Rattle.declarations.specs.Promised.Elaboration.{supertraits}
use Rattle.declarations.proofs.Growth.{all-held, all-written}
use Rattle.declarations.proofs.Elaborating.{have-bounds-later}
use Rattle.candidate_model.specs.Candidates.{by_rule, all_equal}
use Rattle.built_in_candidates.specs.Goals.{asked_of, candidate_of}
use Rattle.built_in_candidates.specs.Objects.{AreArgumentsOf, bound_in}
use Rattle.built_in_candidates.proofs.Asking.{asked-later}
use Rattle.built_in_candidates.proofs.Noted.{noted-later}
use Rattle.built_in_candidates.proofs.NextBounds.{by-rule-of}
use Rattle.built_in_candidates.proofs.Objects.{principal-any, object-applied, object-first, by_bound, objects-at, no-objects}
use Rattle.built_in_candidates.proofs.object.consider_next_object_bound_candidate.Goals as goal

pub object_bound_after-requires-clause-applied : goal.object_bound_after-requires-clause-applied
object_bound_after-requires-clause-applied c = λ l h.
    let es = c.args.cx.now.entries in
    let d = c.args.declarations.now in
    let T = trees_at es c.args.goal.now.goal.predicate.trait_ref.args.0 in
    let S = trees_at es c.self_ty-self_ty.result.0 in
    let first = trees-is es types c.self_ty-self_ty.result.0 _ c.self_ty-self_ty.ensures.is in
    let b = trees_at es c.in-Some.bounds.0 in
    let o = c.in-Some.ensures in
    subst (Each (AreArgumentsOf d)) (principal-any S b o.1 l o.2 h) (object-applied d S (b +++ leaf o.1) o.3 (object-first d T S c.requires.first first c.requires.object))

pub bound_candidate-requires-clause-goal : goal.bound_candidate-requires-clause-goal
bound_candidate-requires-clause-goal c = goal-held-later c.args.cx.now.entries c.object_bound_after.new.cx.entries c.object_bound_after.ensures.terms.grew.keeps c.args.goal.now.goal c.requires.goal

pub bound_candidate-requires-clause-declared : goal.bound_candidate-requires-clause-declared
bound_candidate-requires-clause-declared c = all-held c.args.cx.now.entries c.object_bound_after.new.cx.entries c.object_bound_after.ensures.terms.grew.keeps c.args.declarations.now c.requires.declared

pub bound_candidate-requires-clause-traits : goal.bound_candidate-requires-clause-traits
bound_candidate-requires-clause-traits c = have-bounds-later c.args.cx.now.entries c.object_bound_after.new.cx.entries c.object_bound_after.ensures.terms.grew.keeps c.args.declarations.now c.requires.declared c.requires.bounds

pub returns-in_ok-candidate-in-Some-2-clause-is : goal.returns-in_ok-candidate-in-Some-2-clause-is
returns-in_ok-candidate-in-Some-2-clause-is c = λ place was.
    let old = c.args.cx.now.entries in
    let mid = c.object_bound_after.new.cx.entries in
    let new = c.bound_candidate.new.cx.entries in
    let keeps = c.object_bound_after.ensures.terms.grew.keeps in
    let d = c.args.declarations.now in
    let V = written old d in
    let g = c.args.goal.now in
    let a = asked_of old g in
    let T = trees_at old g.goal.predicate.trait_ref.args.0 in
    let S = trees_at old c.self_ty-self_ty.result.0 in
    let first = trees-is old types c.self_ty-self_ty.result.0 _ c.self_ty-self_ty.ensures.is in
    let o = c.in-Some.ensures in
    let rule = by-rule-of V a T S (trees_at old c.in-Some.bounds.0 +++ leaf o.1) c.requires.first first o.3 c.args.number place was in
    let source = BuiltinImpl c.in-Some-2.source in
    let bound = reference_in mid c.in-Some-2.bound in
    let asked = asked_of mid g in
    let P : World → Type 0 = λ W. candidate_of W a.reference.trait new c.in_ok-candidate-in-Some-2.candidate
    ≡ by_rule W asked source (all_equal asked.reference.args bound.args) (supertraits W asked.reference) in
    let made = subst P (all-written old mid keeps d c.requires.declared) c.in_ok-candidate-in-Some-2.ensures.is in
    ap Some (made ∙ ap (λ x. by_rule V x source (all_equal x.reference.args bound.args) (supertraits V x.reference)) (asked-later old mid keeps g c.requires.goal))
    ∙ ap (option_map (by_bound V a)) (ap (option_map (bound_in mid)) (sym c.in-Some-2.is) ∙ c.in_ok-source-in-Some.ensures.is o.1 o.2 place rule)
    ∙ sym (objects-at V a T S (trees_at old c.in-Some.bounds.0 +++ leaf o.1) c.requires.first first o.3 (suc place))

pub returns-in-None-2-clause-is : goal.returns-in-None-2-clause-is
returns-in-None-2-clause-is c = λ place was.
    let old = c.args.cx.now.entries in
    let mid = c.object_bound_after.new.cx.entries in
    let V = written old c.args.declarations.now in
    let g = c.args.goal.now in
    let a = asked_of old g in
    let T = trees_at old g.goal.predicate.trait_ref.args.0 in
    let S = trees_at old c.self_ty-self_ty.result.0 in
    let first = trees-is old types c.self_ty-self_ty.result.0 _ c.self_ty-self_ty.ensures.is in
    let o = c.in-Some.ensures in
    let rule = by-rule-of V a T S (trees_at old c.in-Some.bounds.0 +++ leaf o.1) c.requires.first first o.3 c.args.number place was in
    ap (option_map (by_bound V a)) (ap (option_map (bound_in mid)) (sym c.in-None-2.is) ∙ c.in_ok-source-in-Some.ensures.is o.1 o.2 place rule)
    ∙ sym (objects-at V a T S (trees_at old c.in-Some.bounds.0 +++ leaf o.1) c.requires.first first o.3 (suc place))

pub returns-in-None-clause-is : goal.returns-in-None-clause-is
returns-in-None-clause-is c = λ place was.
    let es = c.args.cx.now.entries in
    let V = written es c.args.declarations.now in
    let g = c.args.goal.now in
    let T = trees_at es g.goal.predicate.trait_ref.args.0 in
    let S = trees_at es c.self_ty-self_ty.result.0 in
    let first = trees-is es types c.self_ty-self_ty.result.0 _ c.self_ty-self_ty.ensures.is in
    no-objects V (asked_of es g) T S c.requires.first first c.in-None.ensures (suc place)

pub returns-in_ok-candidate-in-Some-2-clause-notes : goal.returns-in_ok-candidate-in-Some-2-clause-notes
returns-in_ok-candidate-in-Some-2-clause-notes c =
    noted-later c.object_bound_after.new.cx.entries c.bound_candidate.new.cx.entries c.args.declarations.now c.object_bound_after.new.notes.items c.bound_candidate.ensures.terms.grew.keeps c.in_ok-source-in-Some.ensures.notes
