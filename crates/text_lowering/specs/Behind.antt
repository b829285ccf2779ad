-- What two crates see alike of a text, and what one of them sees behind that.
use Rattle.std.specs.Prelude.{◌≡◌, ℕ, Bool, true, ◌<◌, ◌+◌, ◌&&◌, List, [], ◌∷◌, map, filter, take, drop, length, leb, sum_by, if◌then◌else◌}
use Rattle.type_terms.specs.Promised.Label.{Sort, of_type}
use Rattle.type_terms.specs.Promised.Worlds.{StructDecl, TraitDecl, ImplDecl, sees}
use Rattle.text_language.specs.Promised.Declarations as text
use Rattle.text_language.specs.Promised.Declarations.{world_of}
use Rattle.declarations.specs.Promised.Elaboration.{Each}
use Rattle.text_tables.specs.Numbered.{EachNumbered}
use Rattle.text_lowering.specs.MostTerms.{struct_terms_seen, trait_terms_seen, impl_terms_seen, struct_terms, trait_terms, impl_terms}
use Rattle.text_lowering.specs.Promised.SeenWorlds.{plain_struct, plain_trait, plain_impl}
use Rattle.text_lowering.specs.Seen.{param_sorts}

-- Among the first elements, so many, p and q tell the same ones, and so many of them.
pub record AreSeenAlike {A : Type 0} (p q : A → Bool) (xs : List A) (end seen : ℕ) : Type 0 where
  pub alike : filter p (take end xs) ≡ filter q (take end xs)
  pub counted : seen ≡ length (filter q (take end xs))

-- The list from the first element on that only one of p and q tells.
abbrev pub from_difference : {A : Type 0} → (A → Bool) → (A → Bool) → List A → List A
from_difference p q [] = []
from_difference p q (x ∷ xs) = if p x then (if q x then from_difference p q xs else x ∷ xs) else (if q x then x ∷ xs else from_difference p q xs)

-- The first elements, so many, are those before that one.
abbrev pub EndAtDifference : {A : Type 0} → (A → Bool) → (A → Bool) → List A → ℕ → Type 0
EndAtDifference p q xs end = drop end xs ≡ from_difference p q xs

-- ---- items of a crate that crate c sees, with a number from r on
abbrev pub is_new : text.Declarations → ℕ → ℕ → ℕ → ℕ → Bool
is_new d c r h n = leb r n && sees (world_of d) c h

abbrev pub new_structs : text.Declarations → ℕ → ℕ → List StructDecl
new_structs d c r = map plain_struct (filter (λ x. is_new d c r x.home x.name) (world_of d).structs)

abbrev pub new_traits : text.Declarations → ℕ → ℕ → List TraitDecl
new_traits d c r = map plain_trait (filter (λ x. is_new d c r x.home x.name) (world_of d).traits)

abbrev pub new_impls : text.Declarations → ℕ → ℕ → List ImplDecl
new_impls d c r = map plain_impl (filter (λ x. is_new d c r x.home x.name) (world_of d).impls)

-- ---- the kinds of their parameters
abbrev pub new_struct_sorts : text.Declarations → ℕ → ℕ → List (List Sort)
new_struct_sorts d c r = map (λ s. s.kinds) (filter (λ s. is_new d c r s.item.home s.item.name) d.structs)

abbrev pub new_trait_sorts : text.Declarations → ℕ → ℕ → List (List Sort)
new_trait_sorts d c r = map (λ t. of_type ∷ t.kinds) (filter (λ t. is_new d c r t.item.home t.item.name) d.traits)

abbrev pub new_impl_sorts : text.Declarations → ℕ → ℕ → List (List Sort)
new_impl_sorts d c r = map param_sorts (filter (λ i. is_new d c r i.item.home i.item.name) d.impls)

-- ---- how many terms are made of them at most
abbrev pub new_struct_terms : text.Declarations → ℕ → ℕ → text.NamedStruct → ℕ
new_struct_terms d c r s = if is_new d c r s.item.home s.item.name then struct_terms s.item else 0

abbrev pub new_trait_terms : text.Declarations → ℕ → ℕ → text.NamedTrait → ℕ
new_trait_terms d c r t = if is_new d c r t.item.home t.item.name then trait_terms t.item else 0

abbrev pub new_impl_terms : text.Declarations → ℕ → ℕ → text.NamedImpl → ℕ
new_impl_terms d c r i = if is_new d c r i.item.home i.item.name then impl_terms i.item else 0

-- How many terms are made at most of what crate c sees from the first struct, trait and impl on that only one of crates c and e sees.
abbrev pub most_new_terms : text.Declarations → ℕ → ℕ → ℕ
most_new_terms d c e =
    sum_by (struct_terms_seen d c) (from_difference (λ s. sees (world_of d) c s.item.home) (λ s. sees (world_of d) e s.item.home) d.structs)
    + sum_by (trait_terms_seen d c) (from_difference (λ t. sees (world_of d) c t.item.home) (λ t. sees (world_of d) e t.item.home) d.traits)
    + sum_by (impl_terms_seen d c) (from_difference (λ i. sees (world_of d) c i.item.home) (λ i. sees (world_of d) e i.item.home) d.impls)

-- ---- the numbers of items are below the index of each entry that satisfies p
abbrev pub AreBefore : {A X : Type 0} → (A → Bool) → List A → (X → ℕ) → List X → Type 0
AreBefore p rows number xs = EachNumbered (λ k r. p r ≡ true → Each (λ x. number x < k) xs) rows
