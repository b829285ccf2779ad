use Rattle.std.proofs.Common.{◌≡◌, [], ◌∷◌, List, map, refl, sym, ap, ◌∙◌, subst, None}
use Rattle.std.specs.Prelude.{IfSome, is_some, true}
use Rattle.std.specs.List.{flat_map}
use Rattle.type_terms.specs.Promised.Erased.{erased_struct}
use Rattle.type_terms.specs.Promised.Label.{adt}
use Rattle.type_terms.specs.Promised.Trees.{none, tree, instantiate, erase}
use Rattle.type_terms.specs.Promised.Worlds.{StructDecl}
use Rattle.type_terms.specs.Promised.Rules.{row, sized, sized_rules, sized_struct, last_asked, fields_of, together}
use Rattle.type_terms.specs.Promised.Handles.{Has, types, trees_at}
use Rattle.type_terms.specs.declared.kinds.Ty.{Ty}
use Rattle.term_folds.specs.Arguments.{first_misfit}
use Rattle.declarations.specs.Items.{declared, struct_in}
use Rattle.declarations.specs.Promised.Elaboration.{Each}
use Rattle.declarations.specs.Unsizing.{field_trees}
use Rattle.declarations.proofs.Basics.{each-end}
use Rattle.structural_traits.specs.Constituents.{premises_of, types_asked, each_asked_of, IsOneRow}
use Rattle.structural_traits.proofs.FieldRows.{ended, last-row}
use Rattle.structural_traits.proofs.Structs.{fields-fit}
use Rattle.structural_traits.proofs.Trees.{type-is, one-last, fields-last}
use Rattle.structural_traits.proofs.constituents.sized_constraint.Goals as goal

pub field_with-requires-clause-field : goal.field_with-requires-clause-field
field_with-requires-clause-field c =
    let es = c.args.cx.now.entries in
    let back = sym c.deref.ensures.value ∙ c.in-Some-split_last.ensures.cases.0 in
    each-end (λ (t : Ty). Has es types t.0) c.in-Some-split_last.field-0-1.now c.in-Some-split_last.last.now (subst (Each (λ (t : Ty). Has es types t.0)) back (c.in-Some.ensures.held es c.requires.held).0)

pub field_with-requires-clause-closed : goal.field_with-requires-clause-closed
field_with-requires-clause-closed c = sym c.outer_exclusive_binder.ensures ∙ c.if-outer_exclusive_binder-ne0.false

pub returns-in-None-clause-are : goal.returns-in-None-clause-are
returns-in-None-clause-are c = λ _.
    let es = c.args.cx.now.entries in
    let A = trees_at es c.args.args.0 in
    ap (λ l. premises_of (flat_map (λ (x : StructDecl). row sized_struct (last_asked sized (fields_of x A))) l)) (c.in-None.ensures.written es)

pub returns-in_ok-tys-in-Some-2-clause-are : goal.returns-in_ok-tys-in-Some-2-clause-are
returns-in_ok-tys-in-Some-2-clause-are c = λ _.
    let es = c.args.cx.now.entries in
    let new = c.field_with.new.cx.entries in
    let A = trees_at es c.args.args.0 in
    let ty = c.in-Some-2.ty in
    let front = c.in-Some-split_last.field-0-1.now in
    let last = c.in-Some-split_last.last.now in
    let back = sym c.deref.ensures.value ∙ c.in-Some-split_last.ensures.cases.0 in
    let held = subst (λ o. IfSome o (λ (r : Ty). Has new types r.0)) c.in-Some-2.is c.in_ok-ty.ensures.held in
    let is = subst (λ o. IfSome o (λ (r : Ty). trees_at new r.0 ≡ instantiate 0 A (trees_at es last.0))) c.in-Some-2.is c.in_ok-ty.ensures.is in
    let asks = ap (λ (ts : List Ty). last_asked sized (together (map (instantiate 0 A) (field_trees es ts)))) back
    ∙ ap (λ l. last_asked sized (together (map (instantiate 0 A) l))) (ended (λ (x : Ty). trees_at es x.0) front last)
    ∙ fields-last sized A (field_trees es front) (trees_at es last.0) (trees_at new ty.0) is (one-last sized (trees_at new ty.0) (type-is new c.lawful-in-Some-2.ensures ty.0 held)) in
    ap (λ l. premises_of (flat_map (λ (x : StructDecl). row sized_struct (last_asked sized (fields_of x A))) l)) (c.in-Some.ensures.written es)
    ∙ ap (λ l. l ∷ []) (asks ∙ ap (types_asked new sized) (sym c.in_ok-tys-in-Some-2.ensures.items))

pub returns-in_ok-tys-in-Some-2-clause-erased : goal.returns-in_ok-tys-in-Some-2-clause-erased
returns-in_ok-tys-in-Some-2-clause-erased c =
    let es = c.args.cx.now.entries in
    let new = c.field_with.new.cx.entries in
    let A = trees_at es c.args.args.0 in
    let def = c.in-Some.def.now in
    let ty = c.in-Some-2.ty in
    let front = c.in-Some-split_last.field-0-1.now in
    let last = c.in-Some-split_last.last.now in
    let back = sym c.deref.ensures.value ∙ c.in-Some-split_last.ensures.cases.0 in
    let held = subst (λ o. IfSome o (λ (r : Ty). Has new types r.0)) c.in-Some-2.is c.in_ok-ty.ensures.held in
    let is = subst (λ o. IfSome o (λ (r : Ty). trees_at new r.0 ≡ instantiate 0 A (trees_at es last.0))) c.in-Some-2.is c.in_ok-ty.ensures.is in
    let fits = subst (λ o. IfSome o (λ (r : Ty). first_misfit A (trees_at es last.0) ≡ None)) c.in-Some-2.is c.in_ok-ty.ensures.fits in
    let field = each-end (λ (t : Ty). Has es types t.0) front last (subst (Each (λ (t : Ty). Has es types t.0)) back (c.in-Some.ensures.held es c.requires.held).0) in
    let x = erased_struct (struct_in es (c.args.def_id, def)) in
    let V = declared es c.args.declarations.now in
    let one : IsOneRow (sized_rules V (tree (adt c.args.def_id.index) (erase A) none)) (each_asked_of new sized (ty ∷ [])) =
    last-row es new c.lawful.ensures c.lawful-in-Some-2.ensures c.args.args.0 c.requires.args front last ty x _ (c.in-Some.ensures.found es) (ap (λ (l : List Ty). map erase (field_trees es l)) back) field held fits is in
    subst (λ (l : List Ty). IsOneRow (sized_rules V (tree (adt c.args.def_id.index) (erase A) none)) (each_asked_of new sized l)) (sym c.in_ok-tys-in-Some-2.ensures.items) one

pub returns-in-None-2-clause-are : goal.returns-in-None-2-clause-are
returns-in-None-2-clause-are c = λ h.
    let es = c.args.cx.now.entries in
    let A = trees_at es c.args.args.0 in
    let f = h refl in
    let back = sym c.deref.ensures.value ∙ c.in-Some-split_last.ensures.cases.0 in
    let fits = fields-fit es c.args.declarations.now c.args.def_id.index A c.in-Some.def.now f.fields f.applied c.in-Some.ensures.is in
    let last = each-end (λ (x : Ty). first_misfit A (trees_at es x.0) ≡ None) c.in-Some-split_last.field-0-1.now c.in-Some-split_last.last.now (subst (Each (λ (x : Ty). first_misfit A (trees_at es x.0) ≡ None)) back fits) in
    absurd (let z = subst (λ o. is_some o ≡ true) c.in-None-2.is (c.in_ok-ty.ensures.misfits last) in cc)
