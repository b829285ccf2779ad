-- Worked rows: the stack's order, a diamond, and what is knowable with unknowns.
use Rattle.std.proofs.Common.{◌≡◌, ℕ, true, false, List, [], ◌∷◌, map, refl}
use Rattle.type_terms.specs.Promised.Label.{of_type, adt, canonical}
use Rattle.type_terms.specs.Promised.Label.{ref}
use Rattle.type_terms.specs.Promised.Trees.{Trees, none, tree, leaf}
use Rattle.type_terms.specs.Promised.Worlds.{World, Reference}
use Rattle.type_terms.specs.Promised.Rules.{asked, strict_supertraits}
use Rattle.type_terms.specs.Worked.{beside_core, trait_of, struct, base, first, T, u8}
use Rattle.declarations.specs.Promised.Elaboration.{elaborate, supertraits}
use Rattle.candidate_model.specs.Knowing.{is_knowable}
use Rattle.candidate_model.specs.Declared.{is_declared_view}
use Rattle.type_terms.specs.Promised.Core.{core_world}

abbrev traits_of : List Reference → List ℕ
traits_of rs = map (λ (r : Reference). r.trait) rs

-- `trait S: A1 + B1` gives S, B1, A1
abbrev two : World
two = beside_core [] (trait_of 20 base [] ∷ trait_of 21 base [] ∷ trait_of 22 base (asked 20 T ∷ asked 21 T ∷ []) ∷ []) []

last-first : traits_of (elaborate two (asked 22 u8 ∷ [])) ≡ 22 ∷ 21 ∷ 20 ∷ []
last-first = refl

-- `trait Bottom: Left + Right`, both over Top: one entry a path in the model, each once on the stack
abbrev diamond : World
diamond = beside_core [] (trait_of 20 base [] ∷ trait_of 21 base (asked 20 T ∷ []) ∷ trait_of 22 base (asked 20 T ∷ []) ∷ trait_of 23 base (asked 21 T ∷ asked 22 T ∷ []) ∷ []) []

by-paths : traits_of (strict_supertraits diamond (asked 23 u8)) ≡ 21 ∷ 20 ∷ 22 ∷ 20 ∷ []
by-paths = refl

by-stack : traits_of (supertraits diamond (asked 23 u8)) ≡ 22 ∷ 20 ∷ 21 ∷ []
by-stack = refl

-- `crate base; trait Num; struct V<T>`: in base `V<?x>: Num` is knowable and `&?x: Num` is not; in another crate neither is
abbrev world : World
world = beside_core (struct 10 base [] ∷ []) (trait_of 20 base [] ∷ []) []

abbrev X : Trees
X = leaf (canonical of_type 0)

in-struct : is_knowable world base (asked 20 (tree (adt 10) X none)) ≡ true
in-struct = refl

behind-reference : is_knowable world base (asked 20 (tree (ref false) X none)) ≡ false
behind-reference = refl

elsewhere : is_knowable world first (asked 20 u8) ≡ false
elsewhere = refl

-- the model's `core` is declared as it is to be
core-is-declared : is_declared_view core_world ≡ true
core-is-declared = refl
