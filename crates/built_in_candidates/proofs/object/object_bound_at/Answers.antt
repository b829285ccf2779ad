use Rattle.std.proofs.Common.{sym, ap, ◌∙◌, subst}
use Rattle.std.specs.List.{slice_get}
use Rattle.type_terms.specs.Promised.Trees.{leaf, ◌+++◌}
use Rattle.type_terms.specs.Promised.Rules.{principal_with, are_dyn_compatible}
use Rattle.type_terms.specs.Promised.Worlds.{Reference}
use Rattle.type_terms.specs.Promised.Handles.{types, bounds_lists, trees_at}
use Rattle.type_terms.specs.Kept.{trees-later}
use Rattle.declarations.specs.Items.{reference_in, written}
use Rattle.declarations.proofs.Growth.{reference-kept, reference-same}
use Rattle.declarations.specs.Applied.{references_in, TraitRefsHeld}
use Rattle.declarations.specs.Promised.Elaboration.{elaborate}
use Rattle.candidate_model.specs.Candidates.{if_so}
use Rattle.built_in_candidates.specs.Objects.{written_and_elaborated}
use Rattle.built_in_candidates.proofs.Noted.{always-ok, noted-now, noted-later}
use Rattle.built_in_candidates.proofs.object.object_bound_at.Goals as goal
use Rattle.type_terms.proofs.TypeBasics.{if-ok}

pub returns-then-is_dyn_compatible-clause-is : goal.returns-then-is_dyn_compatible-clause-is
returns-then-is_dyn_compatible-clause-is c =
    let old = c.args.cx.now.entries in
    let mid = c.noted_principal.new.cx.entries in
    let keeps = c.noted_principal.ensures.terms.grew.keeps in
    let V = written old c.args.declarations.now in
    let q = reference_in old c.args.object.asked in
    let n = c.args.place in
    let S = trees_at old c.args.object.self_ty.0 in
    let found = references_in mid c.deref-then-is_dyn_compatible.result.now in
    if-ok _ _ c.bound_of_trait.result
    (λ o is. λ l h.
    let B = trees_at old c.args.object.bounds.0 +++ leaf l in
    let P = principal_with S B in
    let elab = ap (references_in mid) c.deref.ensures.value ∙ c.in_ok-principal.ensures.elaborated l h ∙ ap (elaborate V) (sym (c.in_ok-principal.ensures.principal l h)) in
    let ok = c.is_dyn_compatible.ensures old mid c.requires.traits elab ∙ ap (are_dyn_compatible V) (c.in_ok-principal.ensures.principal l h) in
    is l h
    ∙ ap (λ (x : Reference). slice_get (written_and_elaborated x (trees_at mid c.args.object.self_ty.0) (trees_at mid c.args.object.bounds.0 +++ leaf l) found) n) (reference-same old mid keeps c.args.object.asked c.requires.asked)
    ∙ ap (λ s. slice_get (written_and_elaborated q s (trees_at mid c.args.object.bounds.0 +++ leaf l) found) n) (trees-later old mid keeps types c.args.object.self_ty.0 c.requires.self_held)
    ∙ ap (λ b. slice_get (written_and_elaborated q S (b +++ leaf l) found) n) (trees-later old mid keeps bounds_lists c.args.object.bounds.0 c.requires.bounds)
    ∙ ap (λ rs. slice_get (written_and_elaborated q S B rs) n) (ap (references_in mid) c.deref-then-is_dyn_compatible.ensures.value ∙ c.in_ok-principal.ensures.elaborated l h)
    ∙ sym (ap (λ b. slice_get (if_so b (written_and_elaborated q S B (elaborate V P))) n) (sym ok ∙ c.if-is_dyn_compatible.true)))
    c.bound_of_trait.ensures.is

pub returns-else-is_dyn_compatible-clause-is : goal.returns-else-is_dyn_compatible-clause-is
returns-else-is_dyn_compatible-clause-is c = λ l h.
    let old = c.args.cx.now.entries in
    let mid = c.noted_principal.new.cx.entries in
    let V = written old c.args.declarations.now in
    let S = trees_at old c.args.object.self_ty.0 in
    let B = trees_at old c.args.object.bounds.0 +++ leaf l in
    let P = principal_with S B in
    let elab = ap (references_in mid) c.deref.ensures.value ∙ c.in_ok-principal.ensures.elaborated l h ∙ ap (elaborate V) (sym (c.in_ok-principal.ensures.principal l h)) in
    let ok = c.is_dyn_compatible.ensures old mid c.requires.traits elab ∙ ap (are_dyn_compatible V) (c.in_ok-principal.ensures.principal l h) in
    sym (ap (λ b. slice_get (if_so b (written_and_elaborated (reference_in old c.args.object.asked) S B (elaborate V P))) c.args.place) (sym ok ∙ c.if-is_dyn_compatible.false))

pub bound_of_trait-requires-clause-asked : goal.bound_of_trait-requires-clause-asked
bound_of_trait-requires-clause-asked c = reference-kept c.args.cx.now.entries c.noted_principal.new.cx.entries c.noted_principal.ensures.terms.grew.keeps c.args.object.asked c.requires.asked

pub bound_of_trait-requires-clause-elaborated : goal.bound_of_trait-requires-clause-elaborated
bound_of_trait-requires-clause-elaborated c =
    let mid = c.noted_principal.new.cx.entries in
    subst (TraitRefsHeld mid) (sym c.deref-then-is_dyn_compatible.ensures.value) (noted-now mid c.args.declarations.now c.noted_principal.new.notes.items c.in_ok-principal.ensures.notes).held

pub returns-then-is_dyn_compatible-clause-notes : goal.returns-then-is_dyn_compatible-clause-notes
returns-then-is_dyn_compatible-clause-notes c =
    let mid = c.noted_principal.new.cx.entries in
    let now = noted-later mid c.bound_of_trait.new.cx.entries c.args.declarations.now c.noted_principal.new.notes.items c.bound_of_trait.ensures.terms.grew.keeps c.in_ok-principal.ensures.notes in
    always-ok c.bound_of_trait.result now
