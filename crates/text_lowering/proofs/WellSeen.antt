-- What a crate sees of a text without a fault is declared well.
use Rattle.std.proofs.Common.{◌≡◌, ℕ, zero, suc, ◌+◌, ◌<◌, Bool, true, false, cond, ◌&&◌, List, [], ◌∷◌, map, Some, Ok, refl, ◌∙◌, subst, arith}
use Rattle.std.proofs.lemmas.Bool.{ne_eqb}
use Rattle.std.proofs.lemmas.Bool.Decides.{Decides-ltb}
use Rattle.std.proofs.lemmas.Option.{same_Some}
use Rattle.std.specs.Prelude.{not, ◌==◌, nat_lt, filter, slice_get}
use Rattle.std.specs.List.{list_any, list_all}
use Rattle.type_terms.specs.Promised.Label.{of_type}
use Rattle.type_terms.specs.Promised.Trees.{some_node}
use Rattle.type_terms.specs.Promised.Worlds.{Reference, StructDecl, TraitDecl, ImplDecl, sees}
use Rattle.text_language.specs.Promised.Declarations.{Declarations, NamedStruct, NamedTrait, NamedImpl, world_of}
use Rattle.text_language.specs.Text.{TextGives}
use Rattle.candidate_model.specs.Declared.{are_terms, are_references, is_lifetime_parameter, is_unsorted}
use Rattle.candidate_model.specs.DeclaredWell.{is_declared_well, is_loose, is_single, are_distinct}
use Rattle.text_lowering.specs.Promised.SeenWorlds.{plain_reference, plain_struct, plain_trait, plain_impl, none_kept, plainly_seen_from}
use Rattle.text_lowering.proofs.Tests.{is_good, is_good_struct, is_good_trait, is_good_impl}
use Rattle.text_lowering.proofs.Trees.{and, and-left, and-right, or}
use Rattle.text_lowering.proofs.SeenViews.{seen-all, all-mapped, struct-terms, struct-single, trait-terms, trait-erased, impl-terms}
use Rattle.text_lowering.proofs.Headers.{impl-determined, impl-sorted}
use Rattle.text_lowering.proofs.Heights.{LowerBounds, lead-down}
use Rattle.text_lowering.proofs.Texts.{Well, AtPlaces, texts-are-well}

-- ---- names of structs are apart
to-places : {A : Type 0} (number : A → ℕ) (b : ℕ) (xs : List A) → ((k : ℕ) (x : A) → slice_get xs k ≡ Some x → number x ≡ b + k) → AtPlaces number b xs
to-places number b [] h = tt
to-places number b (x ∷ xs) h = (h zero x refl ∙ no-more b, to-places number (suc b) xs (λ k y e. h (suc k) y e ∙ more b k))
  where
    no-more : (n : ℕ) → n + zero ≡ n
    no-more n = omega arith

    more : (a i : ℕ) → a + suc i ≡ suc a + i
    more a i = omega arith

module _ (pass : StructDecl → Bool) where
  abbrev names : List NamedStruct → List ℕ
  names ns = map (λ (x : StructDecl). x.name) (map plain_struct (filter pass (map (λ (s : NamedStruct). s.item) ns)))

  above : (m b : ℕ) → m < b → (ns : List NamedStruct) → AtPlaces (λ (y : NamedStruct). y.item.name) b ns → list_any (λ k. k == m) (names ns) ≡ false
  above m b h [] p = refl
  above m b h (n ∷ ns) p = by (pass n.item) (above m (suc b) (omega (arith, h)) ns p.1)
    where
      by : (q : Bool) → list_any (λ k. k == m) (names ns) ≡ false
          → list_any (λ k. k == m) (map (λ (x : StructDecl). x.name) (map plain_struct (cond q (n.item ∷ filter pass (map (λ (s : NamedStruct). s.item) ns)) (filter pass (map (λ (s : NamedStruct). s.item) ns))))) ≡ false
      by true g = or _ _ (ne_eqb n.item.name m (λ e. omega (arith, e, h, p.0))) g
      by false g = g

  distinct : (b : ℕ) (ns : List NamedStruct) → AtPlaces (λ (y : NamedStruct). y.item.name) b ns → are_distinct (names ns) ≡ true
  distinct b [] p = refl
  distinct b (n ∷ ns) p = by (pass n.item) (distinct (suc b) ns p.1)
    where
      no : (q : Bool) → q ≡ false → not q ≡ true
      no false e = refl
      no true e = absurd cc

      by : (q : Bool) → are_distinct (names ns) ≡ true
          → are_distinct (map (λ (x : StructDecl). x.name) (map plain_struct (cond q (n.item ∷ filter pass (map (λ (s : NamedStruct). s.item) ns)) (filter pass (map (λ (s : NamedStruct). s.item) ns))))) ≡ true
      by true g = and _ _ (no _ (above n.item.name (suc b) (omega (arith, p.0)) ns p.1)) g
      by false g = g

-- ---- bounds have lower numbers
all-in : {A : Type 0} (p : A → Bool) (xs : List A) (x : A) (k : ℕ) → list_all p xs ≡ true → slice_get xs k ≡ Some x → p x ≡ true
all-in p [] x k h e = absurd cc
all-in p (y ∷ ys) x zero h e = subst (λ z. p z ≡ true) (same_Some y x e) (and-left (p y) _ h)
all-in p (y ∷ ys) x (suc k) h e = all-in p ys x k (and-right (p y) _ h) e

trait-lower : (x : NamedTrait) → is_good_trait x ≡ true → list_all (λ (b : Reference). nat_lt b.trait (plain_trait x.item).name) (plain_trait x.item).bounds ≡ true
trait-lower x h =
    all-mapped (plain_reference none_kept) (λ (b : Reference). nat_lt b.trait x.item.name) (λ (b : Reference). is_good none_kept (of_type ∷ x.kinds) b.args && nat_lt b.trait x.item.name) (λ b g. and-right (is_good none_kept (of_type ∷ x.kinds) b.args) _ g) x.item.bounds h

lower-bounds : (xs : List TraitDecl) → list_all (λ (x : TraitDecl). list_all (λ (b : Reference). nat_lt b.trait x.name) x.bounds) xs ≡ true → LowerBounds xs
lower-bounds xs h x b i j = (Decides-ltb b.trait x.name).0 (all-in (λ (c : Reference). nat_lt c.trait x.name) x.bounds b j.0 (all-in (λ (y : TraitDecl). list_all (λ (c : Reference). nat_lt c.trait y.name) y.bounds) xs x i.0 h i.1) j.1)

-- ---- all of it
pub seen-well : (d : Declarations) (c : ℕ) → Well d → is_declared_well (plainly_seen_from d c) ≡ true
seen-well d c w =
    let V = plainly_seen_from d c in
    let s = λ (x : StructDecl). sees (world_of d) c x.home in
    let t = λ (x : TraitDecl). sees (world_of d) c x.home in
    let i = λ (x : ImplDecl). sees (world_of d) c x.home in
    and _ _
    (and _ _ (seen-all (λ (x : NamedStruct). x.item) plain_struct s (λ (x : StructDecl). list_all are_terms x.fields) is_good_struct struct-terms d.structs w.structs)
    (and _ _ (seen-all (λ (x : NamedTrait). x.item) plain_trait t (λ (x : TraitDecl). are_references x.bounds) is_good_trait trait-terms d.traits w.traits)
    (seen-all (λ (x : NamedImpl). x.item) plain_impl i (λ (x : ImplDecl). are_terms x.header.args && are_references x.clauses) is_good_impl impl-terms d.impls w.impls)))
    (and _ _
    (seen-all (λ (x : NamedImpl). x.item) plain_impl i (λ (x : ImplDecl). list_all (λ (k : Reference). not (some_node (is_loose x.header.args) k.args)) x.clauses) is_good_impl impl-determined d.impls w.impls)
    (and _ _
    (seen-all (λ (x : NamedImpl). x.item) plain_impl i (λ (x : ImplDecl). not (some_node (is_unsorted x.params x.header.args) x.header.args)) is_good_impl impl-sorted d.impls w.impls)
    (and _ _
    (seen-all (λ (x : NamedTrait). x.item) plain_trait t (λ (x : TraitDecl). list_all (λ (b : Reference). not (some_node is_lifetime_parameter b.args)) x.bounds) is_good_trait trait-erased d.traits w.traits)
    (and _ _
    (lead-down V
    (lower-bounds V.traits (seen-all (λ (x : NamedTrait). x.item) plain_trait t (λ (x : TraitDecl). list_all (λ (b : Reference). nat_lt b.trait x.name) x.bounds) is_good_trait trait-lower d.traits w.traits)))
    (and _ _ (distinct s 0 d.structs (to-places (λ (y : NamedStruct). y.item.name) 0 d.structs (λ k x e. w.struct_numbers k x e ∙ zero-first k)))
    (seen-all (λ (x : NamedStruct). x.item) plain_struct s (λ (x : StructDecl). list_all is_single x.fields) is_good_struct struct-single d.structs w.structs))))))
  where
    zero-first : (k : ℕ) → k ≡ 0 + k
    zero-first k = omega arith

pub texts-seen-well : (bytes : List ℕ) (d : Declarations) → TextGives bytes (Ok d) → (c : ℕ) → is_declared_well (plainly_seen_from d c) ≡ true
texts-seen-well bytes d h c = seen-well d c (texts-are-well bytes d h)
