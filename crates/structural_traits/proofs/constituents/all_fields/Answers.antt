use Rattle.std.proofs.Common.{◌≡◌, [], ◌∷◌, List, map, refl, sym, ap, ◌∙◌, subst, None}
use Rattle.std.specs.Prelude.{IfSome, is_some, true}
use Rattle.std.specs.List.{flat_map}
use Rattle.type_terms.specs.Kinds.{TysHeld}
use Rattle.type_terms.specs.Promised.Erased.{erased_struct}
use Rattle.type_terms.specs.Promised.Trees.{instantiate}
use Rattle.type_terms.specs.Promised.Worlds.{StructDecl}
use Rattle.type_terms.specs.Promised.Rules.{auto_struct, row, each_asked, fields_of, together}
use Rattle.type_terms.specs.Promised.Handles.{trees_at}
use Rattle.type_terms.specs.declared.kinds.Ty.{Ty}
use Rattle.term_folds.specs.Arguments.{first_misfit}
use Rattle.declarations.specs.Items.{struct_in}
use Rattle.declarations.specs.Promised.Elaboration.{Each}
use Rattle.declarations.specs.Unsizing.{field_trees}
use Rattle.structural_traits.specs.Constituents.{premises_of}
use Rattle.structural_traits.proofs.FieldRows.{each-held, fields-asked, struct-row}
use Rattle.structural_traits.proofs.Structs.{fields-fit}
use Rattle.structural_traits.proofs.constituents.all_fields.Goals as goal

pub fields_with-requires-clause-fields : goal.fields_with-requires-clause-fields
fields_with-requires-clause-fields c =
    let es = c.args.cx.now.entries in
    subst (TysHeld es) (sym c.deref.ensures.value) (each-held es c.in-Some.def.now.fields.items (c.in-Some.ensures.held es c.requires.held).0)

pub fields_with-requires-clause-closed : goal.fields_with-requires-clause-closed
fields_with-requires-clause-closed c = sym c.outer_exclusive_binder.ensures ∙ c.if-outer_exclusive_binder-ne0.false

pub returns-in-None-clause-are : goal.returns-in-None-clause-are
returns-in-None-clause-are c = λ _ t.
    let es = c.args.cx.now.entries in
    let A = trees_at es c.args.args.0 in
    ap (λ l. premises_of (flat_map (λ (x : StructDecl). row auto_struct (each_asked t (fields_of x A))) l)) (c.in-None.ensures.written es)

pub returns-in-Some-2-clause-are : goal.returns-in-Some-2-clause-are
returns-in-Some-2-clause-are c = λ _ t.
    let es = c.args.cx.now.entries in
    let new = c.fields_with.new.cx.entries in
    let A = trees_at es c.args.args.0 in
    let tys = c.in-Some-2.tys.items in
    let held = subst (λ o. IfSome o (λ v. TysHeld new v.items)) c.in-Some-2.is c.in_ok-tys.ensures.held in
    let are = subst (λ o. IfSome o (λ v. field_trees new v.items ≡ map (instantiate 0 A) (field_trees es c.deref.result.now))) c.in-Some-2.is c.in_ok-tys.ensures.are in
    let fields = ap (λ (ts : List Ty). map (instantiate 0 A) (field_trees es ts)) (sym c.deref.ensures.value) ∙ sym are in
    ap (λ l. premises_of (flat_map (λ (x : StructDecl). row auto_struct (each_asked t (fields_of x A))) l)) (c.in-Some.ensures.written es)
    ∙ ap (λ l. l ∷ []) (ap (λ ts. each_asked t (together ts)) fields ∙ fields-asked new c.lawful-in-Some-2.ensures t tys held)

pub returns-in-Some-2-clause-erased : goal.returns-in-Some-2-clause-erased
returns-in-Some-2-clause-erased c = λ t.
    let es = c.args.cx.now.entries in
    let new = c.fields_with.new.cx.entries in
    let A = trees_at es c.args.args.0 in
    let def = c.in-Some.def.now in
    let fs = c.deref.result.now in
    let dv = c.deref.ensures.value in
    let tys = c.in-Some-2.tys.items in
    let held = subst (λ o. IfSome o (λ v. TysHeld new v.items)) c.in-Some-2.is c.in_ok-tys.ensures.held in
    let are = subst (λ o. IfSome o (λ v. field_trees new v.items ≡ map (instantiate 0 A) (field_trees es fs))) c.in-Some-2.is c.in_ok-tys.ensures.are in
    let fits = subst (λ o. IfSome o (λ _. Each (λ (f : Ty). first_misfit A (trees_at es f.0) ≡ None) fs)) c.in-Some-2.is c.in_ok-tys.ensures.fits in
    struct-row es new c.lawful.ensures c.lawful-in-Some-2.ensures c.args.args.0 c.requires.args t def.fields.items tys (erased_struct (struct_in es (c.args.def_id, def))) _ (c.in-Some.ensures.found es) refl
    (each-held es def.fields.items (c.in-Some.ensures.held es c.requires.held).0) held (subst (λ (l : List Ty). Each (λ (f : Ty). first_misfit A (trees_at es f.0) ≡ None) l) dv fits)
    (subst (λ (l : List Ty). field_trees new tys ≡ map (instantiate 0 A) (field_trees es l)) dv are)

pub returns-in-None-2-clause-are : goal.returns-in-None-2-clause-are
returns-in-None-2-clause-are c = λ h t.
    let es = c.args.cx.now.entries in
    let A = trees_at es c.args.args.0 in
    let f = h refl in
    let fits = fields-fit es c.args.declarations.now c.args.def_id.index A c.in-Some.def.now f.fields f.applied c.in-Some.ensures.is in
    let each = subst (λ (l : List Ty). Each (λ (x : Ty). first_misfit A (trees_at es x.0) ≡ None) l) (sym c.deref.ensures.value) fits in
    absurd (let z = subst (λ o. is_some o ≡ true) c.in-None-2.is (c.in_ok-tys.ensures.misfits each) in cc)
