-- What stays of declarations as the interner grows.
use Rattle.std.proofs.Common.{◌≡◌, List, [], ◌∷◌, length, refl, sym, ap, ◌∙◌}
use Rattle.std.specs.Prelude.{map}
use Rattle.type_terms.specs.Promised.Worlds.{World, StructDecl, TraitDecl, ImplDecl, Reference}
use Rattle.type_terms.specs.Promised.Erased.{erased_world}
use Rattle.type_terms.specs.Promised.Handles.{Entry, Keeps, Has, types, trees_at}
use Rattle.type_terms.specs.Terms.{args_lists}
use Rattle.type_terms.specs.Kept.{has-later, trees-later}
use Rattle.term_folds.specs.declared.predicate.TraitRef.{TraitRef}
use Rattle.type_terms.specs.declared.AdtId.{AdtId}
use Rattle.type_terms.specs.declared.TraitId.{TraitId}
use Rattle.type_terms.specs.declared.kinds.Ty.{Ty}
use Rattle.declarations.specs.declared.items.AdtDef.{AdtDef}
use Rattle.declarations.specs.declared.items.TraitDef.{TraitDef}
use Rattle.declarations.specs.declared.items.ImplDef.{ImplDef}
use Rattle.declarations.specs.Apart.{is_fixed}
use Rattle.declarations.specs.Heads.{head_of, inner_head_of, begins_declared}
use Rattle.declarations.specs.Promised.Elaboration.{Each}
use Rattle.declarations.specs.Unsizing.{field_trees, unsizing_flags}
use Rattle.declarations.specs.Items.{Items, HeldImpl, reference_in, struct_in, trait_in, impl_in, written, declared}
use Rattle.declarations.specs.Held.{ReferenceHeld, StructHeld, TraitHeld, ImplHeld, AreHeld}
use Rattle.type_terms.proofs.ListBasics.{next as joined}

pub each-kept : {A : Type 0} (P Q : A → Type 0) → ((x : A) → P x → Q x) → (xs : List A) → Each P xs → Each Q xs
each-kept P Q f [] h = tt
each-kept P Q f (x ∷ xs) h = (f x h.0, each-kept P Q f xs h.1)

read-same : {A B : Type 0} (P : A → Type 0) (f g : A → B) → ((x : A) → P x → f x ≡ g x) → (xs : List A) → Each P xs → map f xs ≡ map g xs
read-same P f g e [] h = refl
read-same P f g e (x ∷ xs) h = joined (f x) (g x) (map f xs) (map g xs) (e x h.0) (read-same P f g e xs h.1)

abbrev decl : HeldImpl → Reference → List Reference → ImplDecl
decl i r rs = record { name = i.id.index; home = i.def.home.index; params = length i.def.params.items; header = r; clauses = rs }

same-decl : (i : HeldImpl) (r s : Reference) (rs ss : List Reference) → r ≡ s → rs ≡ ss → decl i r rs ≡ decl i s ss
same-decl i r s rs ss p q = ap (λ x. decl i x rs) p ∙ ap (decl i s) q

abbrev world : List StructDecl → List TraitDecl → List ImplDecl → World
world xs ts is = record { crates = []; structs = xs; traits = ts; impls = is }

pub same-world : (a b : List StructDecl) (p q : List TraitDecl) (x y : List ImplDecl) → a ≡ b → p ≡ q → x ≡ y → world a p x ≡ world b q y
same-world a b p q x y e f g = ap (λ z. world z p x) e ∙ ap (λ z. world b z x) f ∙ ap (world b q) g

module _ (old new : List Entry) (k : Keeps old new) where
  pub reference-kept : (r : TraitRef) → ReferenceHeld old r → ReferenceHeld new r
  reference-kept r h = has-later old new k args_lists r.args.0 h

  pub args-same : (r : TraitRef) → ReferenceHeld old r → trees_at new r.args.0 ≡ trees_at old r.args.0
  args-same r h = trees-later old new k args_lists r.args.0 h

  pub reference-same : (r : TraitRef) → ReferenceHeld old r → reference_in new r ≡ reference_in old r
  reference-same r h = ap (λ t. let s : Reference = record { trait = r.def_id.index; args = t } in s) (args-same r h)

  fields-same : (ts : List Ty) → Each (λ t. Has old types t.0) ts → field_trees new ts ≡ field_trees old ts
  fields-same ts h = read-same (λ (t : Ty). Has old types t.0) (λ t. trees_at new t.0) (λ t. trees_at old t.0) (λ t g. trees-later old new k types t.0 g) ts h

  struct-kept : (x : AdtId × AdtDef) → StructHeld old x.1 → StructHeld new x.1
  struct-kept x h = (
    each-kept (λ (t : Ty). Has old types t.0) (λ t. Has new types t.0) (λ t g. has-later old new k types t.0 g) x.1.fields.items h.0,
    h.1 ∙ ap (λ l. unsizing_flags l (length x.1.params.items)) (sym (fields-same x.1.fields.items h.0)),
  )

  struct-same : (x : AdtId × AdtDef) → StructHeld old x.1 → struct_in new x ≡ struct_in old x
  struct-same x h =
      ap (λ l. let s : StructDecl = record { name = x.0.index; home = x.1.home.index; is_fundamental = x.1.is_fundamental; fields = l } in s)
      (fields-same x.1.fields.items h.0)

  pub references-kept : (rs : List TraitRef) → Each (ReferenceHeld old) rs → Each (ReferenceHeld new) rs
  references-kept rs h = each-kept (ReferenceHeld old) (ReferenceHeld new) reference-kept rs h

  references-same : (rs : List TraitRef) → Each (ReferenceHeld old) rs → map (reference_in new) rs ≡ map (reference_in old) rs
  references-same rs h = read-same (ReferenceHeld old) (reference_in new) (reference_in old) reference-same rs h

  trait-same : (x : TraitId × TraitDef) → TraitHeld old x.1 → trait_in new x ≡ trait_in old x
  trait-same x h =
      ap (λ l. let s : TraitDecl = record { name = x.0.index; home = x.1.home.index; is_fundamental = x.1.is_fundamental; is_auto = x.1.is_auto; bounds = l } in s)
      (references-same x.1.bounds.items h)

  impl-kept : (def : ImplDef) → ImplHeld old def → ImplHeld new def
  impl-kept def h =
      record {
        header = reference-kept def.header h.header;
        clauses = references-kept def.clauses.items h.clauses;
        begins = ap begins_declared (args-same def.header h.header) ∙ h.begins;
      }

  impl-same : (i : HeldImpl) → ImplHeld old i.def → impl_in new i.id i.def ≡ impl_in old i.id i.def
  impl-same i h =
      same-decl i (reference_in new i.def.header) (reference_in old i.def.header) (map (reference_in new) i.def.clauses.items) (map (reference_in old) i.def.clauses.items)
      (reference-same i.def.header h.header) (references-same i.def.clauses.items h.clauses)

  heads-kept : (is : List HeldImpl) → Each (λ i. ImplHeld old i.def) is → Each (λ (i : HeldImpl). i.self_head ≡ head_of (trees_at old i.def.header.args.0)) is
      → Each (λ (i : HeldImpl). i.self_head ≡ head_of (trees_at new i.def.header.args.0)) is
  heads-kept [] h e = tt
  heads-kept (i ∷ is) h e = (e.0 ∙ ap head_of (sym (args-same i.def.header h.0.header)), heads-kept is h.1 e.1)

  inner-kept : (is : List HeldImpl) → Each (λ i. ImplHeld old i.def) is → Each (λ (i : HeldImpl). i.inner_head ≡ inner_head_of (trees_at old i.def.header.args.0)) is
      → Each (λ (i : HeldImpl). i.inner_head ≡ inner_head_of (trees_at new i.def.header.args.0)) is
  inner-kept [] h e = tt
  inner-kept (i ∷ is) h e = (e.0 ∙ ap inner_head_of (sym (args-same i.def.header h.0.header)), inner-kept is h.1 e.1)

  fixed-kept : (is : List HeldImpl) → Each (λ i. ImplHeld old i.def) is → Each (λ (i : HeldImpl). i.is_fixed ≡ is_fixed (trees_at old i.def.header.args.0)) is
      → Each (λ (i : HeldImpl). i.is_fixed ≡ is_fixed (trees_at new i.def.header.args.0)) is
  fixed-kept [] h e = tt
  fixed-kept (i ∷ is) h e = (e.0 ∙ ap is_fixed (sym (args-same i.def.header h.0.header)), fixed-kept is h.1 e.1)

  pub all-held : (d : Items) → AreHeld old d → AreHeld new d
  all-held d h =
      record {
        structs = each-kept (λ (x : AdtId × AdtDef). StructHeld old x.1) (λ x. StructHeld new x.1) struct-kept d.structs h.structs;
        traits = each-kept (λ (x : TraitId × TraitDef). TraitHeld old x.1) (λ x. TraitHeld new x.1) (λ x g. references-kept x.1.bounds.items g) d.traits h.traits;
        impls = each-kept (λ (i : HeldImpl). ImplHeld old i.def) (λ i. ImplHeld new i.def) (λ i g. impl-kept i.def g) d.impls h.impls;
        heads = heads-kept d.impls h.impls h.heads;
        inner = inner-kept d.impls h.impls h.inner;
        fixed = fixed-kept d.impls h.impls h.fixed;
      }

  pub all-written : (d : Items) → AreHeld old d → written new d ≡ written old d
  all-written d h =
      same-world (map (struct_in new) d.structs) (map (struct_in old) d.structs) (map (trait_in new) d.traits) (map (trait_in old) d.traits)
      (map (λ i. impl_in new i.id i.def) d.impls) (map (λ i. impl_in old i.id i.def) d.impls)
      (read-same (λ (x : AdtId × AdtDef). StructHeld old x.1) (struct_in new) (struct_in old) struct-same d.structs h.structs)
      (read-same (λ (x : TraitId × TraitDef). TraitHeld old x.1) (trait_in new) (trait_in old) trait-same d.traits h.traits)
      (read-same (λ (i : HeldImpl). ImplHeld old i.def) (λ i. impl_in new i.id i.def) (λ i. impl_in old i.id i.def) impl-same d.impls h.impls)

  pub all-declared : (d : Items) → AreHeld old d → declared new d ≡ declared old d
  all-declared d h = ap erased_world (all-written d h)
