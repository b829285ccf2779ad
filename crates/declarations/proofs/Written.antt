-- The structs, traits and impls of a number, as they are written.
use Rattle.std.proofs.Common.{◌≡◌, Bool, true, false, cond, List, [], ◌∷◌, Option, Some, None, refl, sym, ap, subst, ◌∙◌}
use Rattle.std.specs.Prelude.{◌==◌, map, filter}
use Rattle.std.specs.Option.{option_map}
use Rattle.std.specs.List.{IsDistinct}
use Rattle.std.specs.Map.{lookup, keys_of}
use Rattle.type_terms.specs.Promised.Worlds.{StructDecl, TraitDecl, ImplDecl, structs_named, traits_named}
use Rattle.type_terms.specs.Promised.Handles.{Entry}
use Rattle.type_terms.specs.declared.AdtId.{AdtId}
use Rattle.type_terms.specs.declared.TraitId.{TraitId}
use Rattle.type_terms.specs.declared.ImplId.{ImplId}
use Rattle.type_terms.specs.contracts.AdtIdPartialEq.TheImpl.{ghosts as adt-id}
use Rattle.type_terms.specs.contracts.TraitIdPartialEq.TheImpl.{ghosts as trait-id}
use Rattle.type_terms.specs.contracts.ImplIdPartialEq.TheImpl.{ghosts as impl-id}
use Rattle.declarations.specs.declared.items.AdtDef.{AdtDef}
use Rattle.declarations.specs.declared.items.TraitDef.{TraitDef}
use Rattle.declarations.specs.declared.declarations.ImplEntry.{ImplEntry}
use Rattle.declarations.specs.Items.{Items, IsOnly, struct_in, trait_in, impl_in, struct_at, trait_at, impl_at, written}
use Rattle.declarations.specs.Inside.{impl_of}
use Rattle.declarations.specs.Relevant.{impls_named}
use Rattle.declarations.proofs.Lookups.{map-map, got-named, none-named, one-named}

pub struct-looked : (i : AdtId) (entries : List (AdtId × AdtDef)) → lookup (adt-id.eq i) entries ≡ struct_at i.index entries
struct-looked i [] = refl
struct-looked i (e ∷ es) = ap (λ o. cond (i.index == e.0.index) (Some e.1) o) (struct-looked i es)

pub trait-looked : (i : TraitId) (entries : List (TraitId × TraitDef)) → lookup (trait-id.eq i) entries ≡ trait_at i.index entries
trait-looked i [] = refl
trait-looked i (e ∷ es) = ap (λ o. cond (i.index == e.0.index) (Some e.1) o) (trait-looked i es)

pub struct-written : {R : Type 0} (es : List Entry) (entries : List (AdtId × AdtDef)) (d : Items) → d.structs ≡ entries → (i : AdtId) (now : R → AdtDef) (r : Option R)
    → IsDistinct adt-id.eq (keys_of entries) → option_map now r ≡ lookup (adt-id.eq i) entries → IsOnly (λ v. struct_in es (i, now v)) r (structs_named (written es d) i.index)
struct-written es entries d held i now r u e =
    subst (IsOnly (λ v. struct_in es (i, now v)) r) (ap (λ xs. filter (λ (x : StructDecl). x.name == i.index) (map (struct_in es) xs)) (sym held))
    (got-named adt-id.eq (λ k. k.index) (λ j k. refl) (λ x. struct_in es x) (λ x. x.name) (λ e. refl)
    (λ j k x n. ap (λ m. let s : StructDecl = record { name = m; home = x.home.index; is_fundamental = x.is_fundamental; fields = (struct_in es (k, x)).fields } in s) n) now i entries r u e)

pub trait-written : {R : Type 0} (es : List Entry) (entries : List (TraitId × TraitDef)) (d : Items) → d.traits ≡ entries → (i : TraitId) (now : R → TraitDef) (r : Option R)
    → IsDistinct trait-id.eq (keys_of entries) → option_map now r ≡ lookup (trait-id.eq i) entries → IsOnly (λ v. trait_in es (i, now v)) r (traits_named (written es d) i.index)
trait-written es entries d held i now r u e =
    subst (IsOnly (λ v. trait_in es (i, now v)) r) (ap (λ xs. filter (λ (x : TraitDecl). x.name == i.index) (map (trait_in es) xs)) (sym held))
    (got-named trait-id.eq (λ k. k.index) (λ j k. refl) (λ x. trait_in es x) (λ x. x.name) (λ e. refl)
    (λ j k x n. ap (λ m. let s : TraitDecl = record { name = m; home = x.home.index; is_fundamental = x.is_fundamental; is_auto = x.is_auto; bounds = (trait_in es (k, x)).bounds } in s) n) now i entries r u e)

-- ---- impls
pub impl-looked : (i : ImplId) (entries : List (ImplId × ImplEntry)) → option_map (λ x. x.def) (lookup (impl-id.eq i) entries) ≡ impl_at i.index (map impl_of entries)
impl-looked i [] = refl
impl-looked i (e ∷ es) = by (i.index == e.0.index) (impl-looked i es)
  where
    by : (b : Bool) → option_map (λ x. x.def) (lookup (impl-id.eq i) es) ≡ impl_at i.index (map impl_of es)
        → option_map (λ x. x.def) (cond b (Some e.1) (lookup (impl-id.eq i) es)) ≡ cond b (Some e.1.def) (impl_at i.index (map impl_of es))
    by true h = refl
    by false h = h

module _ (es : List Entry) (entries : List (ImplId × ImplEntry)) (d : Items) (held : d.impls ≡ map impl_of entries) (i : ImplId) where
  impls-are : filter (λ (x : ImplDecl). x.name == i.index) (map (λ x. impl_in es x.0 x.1.def) entries) ≡ impls_named (written es d) i.index
  impls-are = ap (filter (λ (x : ImplDecl). x.name == i.index)) (sym (map-map (λ j. impl_in es j.id j.def) impl_of entries) ∙ ap (λ xs. map (λ j. impl_in es j.id j.def) xs) (sym held))

  same : (j k : ImplId) (x : ImplEntry) → j.index ≡ k.index → impl_in es j x.def ≡ impl_in es k x.def
  same j k x n = ap (λ m. let q : ImplDecl = record (impl_in es k x.def) { name = m } in q) n

  pub impl-not-written : lookup (impl-id.eq i) entries ≡ None → impls_named (written es d) i.index ≡ []
  impl-not-written e = sym impls-are ∙ none-named impl-id.eq (λ k. k.index) (λ j k. refl) (λ x. impl_in es x.0 x.1.def) (λ x. x.name) (λ e. refl) same i entries e

  pub impl-written : (x : ImplEntry) → IsDistinct impl-id.eq (keys_of entries) → lookup (impl-id.eq i) entries ≡ Some x → impls_named (written es d) i.index ≡ impl_in es i x.def ∷ []
  impl-written x u e = sym impls-are ∙ one-named impl-id.eq (λ k. k.index) (λ j k. refl) (λ x. impl_in es x.0 x.1.def) (λ x. x.name) (λ e. refl) same i x entries u e
