use Rattle.std.proofs.Common.{◌<◌, ◌≤◌, ◌-◌, ap, ◌∙◌, subst, Some}
use Rattle.std.specs.Prelude.{◌==◌}
use Rattle.std.specs.List.{slice_get}
use Rattle.type_terms.specs.Promised.Trees.{Trees, leaf, ◌+++◌}
use Rattle.type_terms.specs.Promised.Rules.{asked, sized}
use Rattle.type_terms.specs.Promised.Worlds.{Reference}
use Rattle.type_terms.specs.Promised.Handles.{types, trees_at}
use Rattle.type_terms.specs.Kept.{trees-later}
use Rattle.goal_evaluator.specs.declared.candidate.BuiltinImplSource.TheVariants.{Misc, Object}
use Rattle.declarations.specs.Items.{reference_in}
use Rattle.declarations.specs.Applied.{references_in}
use Rattle.declarations.proofs.Bounded.{all-same}
use Rattle.declarations.proofs.Growth.{reference-kept, references-kept, reference-same}
use Rattle.candidate_model.specs.Candidates.{can_be}
use Rattle.built_in_candidates.specs.Objects.{BoundRule, bounds_to, can_be_in}
use Rattle.built_in_candidates.proofs.Objects.{bound-at, numbered-held, differ, auto-found, sized-left-out, level-found}
use Rattle.built_in_candidates.proofs.object.bound_of_trait.Goals as goal

pub returns-then-place-autos-clause-is : goal.returns-then-place-autos-clause-is
returns-then-place-autos-clause-is c = λ l h.
    let old = c.args.cx.now.entries in
    let S = trees_at old c.args.object.self_ty.0 in
    let t = c.args.object.asked.def_id.index in
    ap (λ (r : Reference). let b : BoundRule = record { source = Misc; reference = r } in Some b) c.in_ok-bound.ensures.is
    ∙ ap (λ (s : Trees). let b : BoundRule = record { source = Misc; reference = asked t s } in Some b) (trees-later old c.count_written.new.cx.entries c.count_written.ensures.terms.grew.keeps types c.args.object.self_ty.0 c.requires.self_held)
    ∙ auto-found (reference_in old c.args.object.asked) S (trees_at old c.args.object.bounds.0 +++ leaf l) (references_in old c.args.elaborated.now) c.args.place
    (subst (λ m. c.args.place < m) (c.in_ok-autos.ensures.is l h) c.if-place-autos.true) (differ t sized c.if-object-eq-SIZED.false)

pub returns-then-object-eq-SIZED-clause-is : goal.returns-then-object-eq-SIZED-clause-is
returns-then-object-eq-SIZED-clause-is c = λ l h.
    let es = c.args.cx.now.entries in
    let S = trees_at es c.args.object.self_ty.0 in
    sized-left-out (reference_in es c.args.object.asked) S (trees_at es c.args.object.bounds.0 +++ leaf l) (references_in es c.args.elaborated.now) c.args.place
    (ap (λ n. n == sized) c.if-object-eq-SIZED.true)

pub bound_from-requires-clause-asked : goal.bound_from-requires-clause-asked
bound_from-requires-clause-asked c = reference-kept c.args.cx.now.entries c.count_written.new.cx.entries c.count_written.ensures.terms.grew.keeps c.args.object.asked c.requires.asked

pub bound_from-requires-clause-held : goal.bound_from-requires-clause-held
bound_from-requires-clause-held c = references-kept c.args.cx.now.entries c.count_written.new.cx.entries c.count_written.ensures.terms.grew.keeps c.args.elaborated.now c.requires.elaborated

pub returns-in-Some-clause-held : goal.returns-in-Some-clause-held
returns-in-Some-clause-held c =
    let mid = c.count_written.new.cx.entries in
    numbered-held mid (can_be_in mid (reference_in mid c.args.object.asked)) 0 (c.args.place - c.in_ok-autos.autos) c.args.elaborated.now c.in-Some.number c.in-Some.bound
    (references-kept c.args.cx.now.entries mid c.count_written.ensures.terms.grew.keeps c.args.elaborated.now c.requires.elaborated) c.in-Some.ensures

pub returns-in-Some-clause-is : goal.returns-in-Some-clause-is
returns-in-Some-clause-is c = λ l h.
    let old = c.args.cx.now.entries in
    let mid = c.count_written.new.cx.entries in
    let keeps = c.count_written.ensures.terms.grew.keeps in
    let q = reference_in old c.args.object.asked in
    let S = trees_at old c.args.object.self_ty.0 in
    let bounds = c.args.elaborated.now in
    let rs = references_in old bounds in
    let n = c.args.place - c.in_ok-autos.autos in
    let count = c.in_ok-autos.ensures.is l h in
    bound-at Object mid (can_be (reference_in mid c.args.object.asked)) 0 n bounds _ c.in-Some.ensures
    ∙ ap (λ (x : Reference). slice_get (bounds_to (can_be x) Object 0 (references_in mid bounds)) n) (reference-same old mid keeps c.args.object.asked c.requires.asked)
    ∙ ap (λ xs. slice_get (bounds_to (can_be q) Object 0 xs) n) (all-same old mid keeps bounds c.requires.elaborated)
    ∙ ap (λ m. slice_get (bounds_to (can_be q) Object 0 rs) (c.args.place - m)) count
    ∙ level-found q S (trees_at old c.args.object.bounds.0 +++ leaf l) rs c.args.place (subst (λ m. m ≤ c.args.place) count c.if-place-autos.false) (differ c.args.object.asked.def_id.index sized c.if-object-eq-SIZED.false)

pub returns-in-None-clause-is : goal.returns-in-None-clause-is
returns-in-None-clause-is c = λ l h.
    let old = c.args.cx.now.entries in
    let mid = c.count_written.new.cx.entries in
    let keeps = c.count_written.ensures.terms.grew.keeps in
    let q = reference_in old c.args.object.asked in
    let S = trees_at old c.args.object.self_ty.0 in
    let bounds = c.args.elaborated.now in
    let rs = references_in old bounds in
    let n = c.args.place - c.in_ok-autos.autos in
    let count = c.in_ok-autos.ensures.is l h in
    bound-at Object mid (can_be (reference_in mid c.args.object.asked)) 0 n bounds _ c.in-None.ensures
    ∙ ap (λ (x : Reference). slice_get (bounds_to (can_be x) Object 0 (references_in mid bounds)) n) (reference-same old mid keeps c.args.object.asked c.requires.asked)
    ∙ ap (λ xs. slice_get (bounds_to (can_be q) Object 0 xs) n) (all-same old mid keeps bounds c.requires.elaborated)
    ∙ ap (λ m. slice_get (bounds_to (can_be q) Object 0 rs) (c.args.place - m)) count
    ∙ level-found q S (trees_at old c.args.object.bounds.0 +++ leaf l) rs c.args.place (subst (λ m. m ≤ c.args.place) count c.if-place-autos.false) (differ c.args.object.asked.def_id.index sized c.if-object-eq-SIZED.false)
