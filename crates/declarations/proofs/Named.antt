-- The structs, traits and impls of a number.
use Rattle.std.proofs.Common.{◌≡◌, Bool, true, false, cond, List, [], ◌∷◌, Option, Some, None, refl, sym, ap, ◌∙◌, subst}
use Rattle.std.specs.Prelude.{◌==◌, map, filter, IfSome}
use Rattle.std.proofs.lemmas.Option.{same_Some}
use Rattle.std.specs.Option.{option_map}
use Rattle.std.specs.List.{IsDistinct}
use Rattle.std.specs.Map.{lookup, keys_of}
use Rattle.type_terms.specs.Promised.Worlds.{structs_named, traits_named}
use Rattle.type_terms.specs.Promised.Erased.{erased_struct, erased_trait, erased_impl}
use Rattle.type_terms.specs.Promised.Handles.{Entry}
use Rattle.type_terms.specs.declared.AdtId.{AdtId}
use Rattle.type_terms.specs.declared.TraitId.{TraitId}
use Rattle.type_terms.specs.declared.ImplId.{ImplId}
use Rattle.type_terms.specs.contracts.AdtIdPartialEq.TheImpl.{ghosts as adt-id}
use Rattle.type_terms.specs.contracts.TraitIdPartialEq.TheImpl.{ghosts as trait-id}
use Rattle.type_terms.specs.contracts.ImplIdPartialEq.TheImpl.{ghosts as impl-id}
use Rattle.declarations.specs.declared.items.AdtDef.{AdtDef}
use Rattle.declarations.specs.declared.items.TraitDef.{TraitDef}
use Rattle.declarations.specs.declared.declarations.ImplEntry.{ImplEntry}
use Rattle.declarations.specs.Items.{Items, IsOnly, struct_in, trait_in, impl_in, declared}
use Rattle.declarations.specs.Promised.Elaboration.{Each}
use Rattle.declarations.specs.Held.{AreHeld, StructHeld, TraitHeld, ImplHeld}
use Rattle.declarations.specs.Inside.{impl_of}
use Rattle.declarations.specs.Relevant.{impls_named}
use Rattle.declarations.proofs.Lookups.{map-map, got-named, absent-named, none-named, one-named}

-- ---- structs
module _ (es : List Entry) (entries : List (AdtId × AdtDef)) (d : Items) (held : d.structs ≡ entries) (i : AdtId) where
  structs-are : filter (λ x. x.name == i.index) (map (λ x. erased_struct (struct_in es x)) entries) ≡ structs_named (declared es d) i.index
  structs-are = ap (filter (λ x. x.name == i.index)) (sym (map-map erased_struct (struct_in es) entries) ∙ ap (λ xs. map erased_struct (map (struct_in es) xs)) (sym held))

  pub struct-got : {R : Type 0} (now : R → AdtDef) (r : Option R) → IsDistinct adt-id.eq (keys_of entries) → option_map now r ≡ lookup (adt-id.eq i) entries
      → IsOnly (λ v. erased_struct (struct_in es (i, now v))) r (structs_named (declared es d) i.index)
  struct-got now r u e =
      subst (IsOnly (λ v. erased_struct (struct_in es (i, now v))) r) structs-are
      (got-named adt-id.eq (λ k. k.index) (λ j k. refl) (λ x. erased_struct (struct_in es x)) (λ x. x.name) (λ e. refl)
      (λ j k x n. ap (λ m. erased_struct (record { name = m; home = x.home.index; is_fundamental = x.is_fundamental; fields = (struct_in es (k, x)).fields })) n) now i entries r u e)

  pub struct-absent : structs_named (declared es d) i.index ≡ [] → lookup (adt-id.eq i) entries ≡ None
  struct-absent h =
      absent-named adt-id.eq (λ k. k.index) (λ j k. refl) (λ x. erased_struct (struct_in es x)) (λ x. x.name) (λ e. refl)
      (λ j k x n. ap (λ m. erased_struct (record { name = m; home = x.home.index; is_fundamental = x.is_fundamental; fields = (struct_in es (k, x)).fields })) n) i entries (structs-are ∙ h)

-- ---- traits
module _ (es : List Entry) (entries : List (TraitId × TraitDef)) (d : Items) (held : d.traits ≡ entries) (i : TraitId) where
  traits-are : filter (λ x. x.name == i.index) (map (λ x. erased_trait (trait_in es x)) entries) ≡ traits_named (declared es d) i.index
  traits-are = ap (filter (λ x. x.name == i.index)) (sym (map-map erased_trait (trait_in es) entries) ∙ ap (λ xs. map erased_trait (map (trait_in es) xs)) (sym held))

  pub trait-got : {R : Type 0} (now : R → TraitDef) (r : Option R) → IsDistinct trait-id.eq (keys_of entries) → option_map now r ≡ lookup (trait-id.eq i) entries
      → IsOnly (λ v. erased_trait (trait_in es (i, now v))) r (traits_named (declared es d) i.index)
  trait-got now r u e =
      subst (IsOnly (λ v. erased_trait (trait_in es (i, now v))) r) traits-are
      (got-named trait-id.eq (λ k. k.index) (λ j k. refl) (λ x. erased_trait (trait_in es x)) (λ x. x.name) (λ e. refl)
      (λ j k x n. ap (λ m. erased_trait (record { name = m; home = x.home.index; is_fundamental = x.is_fundamental; is_auto = x.is_auto; bounds = (trait_in es (k, x)).bounds })) n) now i entries r u e)

  pub trait-absent : traits_named (declared es d) i.index ≡ [] → lookup (trait-id.eq i) entries ≡ None
  trait-absent h =
      absent-named trait-id.eq (λ k. k.index) (λ j k. refl) (λ x. erased_trait (trait_in es x)) (λ x. x.name) (λ e. refl)
      (λ j k x n. ap (λ m. erased_trait (record { name = m; home = x.home.index; is_fundamental = x.is_fundamental; is_auto = x.is_auto; bounds = (trait_in es (k, x)).bounds })) n) i entries (traits-are ∙ h)

-- ---- impls
module _ (es : List Entry) (entries : List (ImplId × ImplEntry)) (d : Items) (held : d.impls ≡ map impl_of entries) (i : ImplId) where
  impls-are : filter (λ x. x.name == i.index) (map (λ x. erased_impl (impl_in es x.0 x.1.def)) entries) ≡ impls_named (declared es d) i.index
  impls-are =
      ap (filter (λ x. x.name == i.index))
      (sym (map-map erased_impl (λ x. impl_in es x.0 x.1.def) entries) ∙ ap (map erased_impl) (sym (map-map (λ j. impl_in es j.id j.def) impl_of entries))
      ∙ ap (λ xs. map erased_impl (map (λ j. impl_in es j.id j.def) xs)) (sym held))

  same : (j k : ImplId) (x : ImplEntry) → j.index ≡ k.index → erased_impl (impl_in es j x.def) ≡ erased_impl (impl_in es k x.def)
  same j k x n = ap (λ m. erased_impl (record (impl_in es k x.def) { name = m })) n

  pub impl-none : lookup (impl-id.eq i) entries ≡ None → impls_named (declared es d) i.index ≡ []
  impl-none e = sym impls-are ∙ none-named impl-id.eq (λ k. k.index) (λ j k. refl) (λ x. erased_impl (impl_in es x.0 x.1.def)) (λ x. x.name) (λ e. refl) same i entries e

  pub impl-one : (x : ImplEntry) → IsDistinct impl-id.eq (keys_of entries) → lookup (impl-id.eq i) entries ≡ Some x → impls_named (declared es d) i.index ≡ erased_impl (impl_in es i x.def) ∷ []
  impl-one x u e = sym impls-are ∙ one-named impl-id.eq (λ k. k.index) (λ j k. refl) (λ x. erased_impl (impl_in es x.0 x.1.def)) (λ x. x.name) (λ e. refl) same i x entries u e

-- ---- what is found is the interner's, as all are
found-held : {K X : Type 0} (eq : K → K → Bool) (P : X → Type 0) (i : K) (x : X) (es : List (K × X)) → Each (λ e. P e.1) es → lookup (eq i) es ≡ Some x → P x
found-held eq P i x [] h f = absurd cc
found-held eq P i x (e ∷ es) h f = by (eq i e.0) f (found-held eq P i x es h.1)
  where
    by : (b : Bool) → cond b (Some e.1) (lookup (eq i) es) ≡ Some x → (lookup (eq i) es ≡ Some x → P x) → P x
    by true f rest = subst P (same_Some e.1 x f) h.0
    by false f rest = rest f

got-held : {K X R : Type 0} (eq : K → K → Bool) (P : X → Type 0) (now : R → X) (i : K) (r : Option R) (es : List (K × X)) → Each (λ e. P e.1) es → option_map now r ≡ lookup (eq i) es
    → IfSome r (λ v. P (now v))
got-held eq P now i None es h f = tt
got-held eq P now i (Some v) es h f = found-held eq P i (now v) es h (sym f)

each-of : {A B : Type 0} (P : B → Type 0) (f : A → B) (xs : List A) → Each P (map f xs) → Each (λ x. P (f x)) xs
each-of P f [] h = tt
each-of P f (x ∷ xs) h = (h.0, each-of P f xs h.1)

pub struct-got-held : {R : Type 0} (es : List Entry) (entries : List (AdtId × AdtDef)) (d : Items) → d.structs ≡ entries → (i : AdtId) (now : R → AdtDef) (r : Option R)
    → option_map now r ≡ lookup (adt-id.eq i) entries → AreHeld es d → IfSome r (λ v. StructHeld es (now v))
struct-got-held es entries d e i now r f h = got-held adt-id.eq (StructHeld es) now i r entries (subst (Each (λ x. StructHeld es x.1)) e h.structs) f

pub trait-got-held : {R : Type 0} (es : List Entry) (entries : List (TraitId × TraitDef)) (d : Items) → d.traits ≡ entries → (i : TraitId) (now : R → TraitDef) (r : Option R)
    → option_map now r ≡ lookup (trait-id.eq i) entries → AreHeld es d → IfSome r (λ v. TraitHeld es (now v))
trait-got-held es entries d e i now r f h = got-held trait-id.eq (TraitHeld es) now i r entries (subst (Each (λ x. TraitHeld es x.1)) e h.traits) f

pub impl-got-held : (es : List Entry) (entries : List (ImplId × ImplEntry)) (d : Items) → d.impls ≡ map impl_of entries → (i : ImplId) (x : ImplEntry)
    → lookup (impl-id.eq i) entries ≡ Some x → AreHeld es d → ImplHeld es x.def
impl-got-held es entries d e i x f h =
    found-held impl-id.eq (λ y. ImplHeld es y.def) i x entries (each-of (λ j. ImplHeld es j.def) impl_of entries (subst (Each (λ j. ImplHeld es j.def)) e h.impls)) f
