use Rattle.std.proofs.Common.{suc, ap, ◌∙◌, drop, subst, sym}
use Rattle.std.specs.List.{slice_get}
use Rattle.type_terms.specs.Promised.Trees.{leaf, ◌+++◌}
use Rattle.type_terms.specs.Promised.Worlds.{Reference}
use Rattle.type_terms.specs.Promised.Handles.{trees_at}
use Rattle.declarations.specs.Items.{reference_in, written}
use Rattle.declarations.specs.Applied.{TraitRefsHeld}
use Rattle.declarations.proofs.Growth.{reference-kept, reference-same}
use Rattle.built_in_candidates.specs.Objects.{numbered_to, can_be_in}
use Rattle.built_in_candidates.proofs.Noted.{noted-now}
use Rattle.built_in_candidates.proofs.NextBounds.{bound-after, dropped-held}
use Rattle.built_in_candidates.proofs.Objects.{numbered-held}
use Rattle.built_in_candidates.proofs.object.object_bound_after.Goals as goal

pub bound_after-requires-clause-asked : goal.bound_after-requires-clause-asked
bound_after-requires-clause-asked c = reference-kept c.args.cx.now.entries c.noted_principal.new.cx.entries c.noted_principal.ensures.terms.grew.keeps c.args.object.asked c.requires.asked

pub bound_after-requires-clause-held : goal.bound_after-requires-clause-held
bound_after-requires-clause-held c =
    let mid = c.noted_principal.new.cx.entries in
    subst (TraitRefsHeld mid) (sym c.deref.ensures.value) (noted-now mid c.args.declarations.now c.noted_principal.new.notes.items c.in_ok-noted_principal.ensures.notes).held

pub returns-in-Some-clause-held : goal.returns-in-Some-clause-held
returns-in-Some-clause-held c =
    let mid = c.noted_principal.new.cx.entries in
    let notes = c.noted_principal.new.notes.items in
    let q = reference_in mid c.args.object.asked in
    let n = c.args.number in
    let held = dropped-held mid (suc n) notes (noted-now mid c.args.declarations.now notes c.in_ok-noted_principal.ensures.notes).held in
    numbered-held mid (can_be_in mid q) (suc n) 0 (drop (suc n) notes) c.in-Some.next c.in-Some.bound held
    (c.in-Some.ensures ∙ ap (λ l. slice_get (numbered_to (can_be_in mid q) (suc n) (drop (suc n) l)) 0) c.deref.ensures.value)

pub returns-in-Some-clause-is : goal.returns-in-Some-clause-is
returns-in-Some-clause-is c = λ l h place was.
    let old = c.args.cx.now.entries in
    let mid = c.noted_principal.new.cx.entries in
    let notes = c.noted_principal.new.notes.items in
    let q = reference_in old c.args.object.asked in
    let same = reference-same old mid c.noted_principal.ensures.terms.grew.keeps c.args.object.asked c.requires.asked in
    let n = c.args.number in
    bound-after (written old c.args.declarations.now) mid q (trees_at old c.args.object.self_ty.0) (trees_at old c.args.object.bounds.0 +++ leaf l) n place notes _
    (c.in-Some.ensures ∙ ap (λ (x : Reference). slice_get (numbered_to (can_be_in mid x) (suc n) (drop (suc n) c.deref.result.now)) 0) same
    ∙ ap (λ z. slice_get (numbered_to (can_be_in mid q) (suc n) (drop (suc n) z)) 0) c.deref.ensures.value) (c.in_ok-noted_principal.ensures.elaborated l h) was

pub returns-in-None-clause-is : goal.returns-in-None-clause-is
returns-in-None-clause-is c = λ l h place was.
    let old = c.args.cx.now.entries in
    let mid = c.noted_principal.new.cx.entries in
    let notes = c.noted_principal.new.notes.items in
    let q = reference_in old c.args.object.asked in
    let same = reference-same old mid c.noted_principal.ensures.terms.grew.keeps c.args.object.asked c.requires.asked in
    let n = c.args.number in
    bound-after (written old c.args.declarations.now) mid q (trees_at old c.args.object.self_ty.0) (trees_at old c.args.object.bounds.0 +++ leaf l) n place notes _
    (c.in-None.ensures ∙ ap (λ (x : Reference). slice_get (numbered_to (can_be_in mid x) (suc n) (drop (suc n) c.deref.result.now)) 0) same
    ∙ ap (λ z. slice_get (numbered_to (can_be_in mid q) (suc n) (drop (suc n) z)) 0) c.deref.ensures.value) (c.in_ok-noted_principal.ensures.elaborated l h) was
