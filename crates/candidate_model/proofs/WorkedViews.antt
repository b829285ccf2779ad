-- Worked rows: which views are declared well.
use Rattle.std.proofs.Common.{◌≡◌, true, false, List, [], ◌∷◌, refl}
use Rattle.type_terms.specs.Promised.Label.{of_type, of_const, of_lifetime, param}
use Rattle.type_terms.specs.Promised.Trees.{none, tree, leaf}
use Rattle.type_terms.specs.Promised.Worlds.{World, TraitDecl, ImplDecl}
use Rattle.type_terms.specs.Promised.Rules.{asked}
use Rattle.type_terms.specs.Worked.{beside_core, trait_of, struct, impl_of, to, applied, base, T, u8}
use Rattle.candidate_model.specs.DeclaredWell.{is_declared_well}

abbrev of_traits : List TraitDecl → World
of_traits ts = beside_core [] ts []

abbrev of_impl : ImplDecl → World
of_impl i = beside_core (struct 10 base (T ∷ []) ∷ []) (trait_of 20 base [] ∷ []) (i ∷ [])

-- a diamond is, and bounds in a circle are not
abbrev diamond : World
diamond = of_traits (trait_of 20 base [] ∷ trait_of 21 base (asked 20 T ∷ []) ∷ trait_of 22 base (asked 20 T ∷ []) ∷ trait_of 23 base (asked 21 T ∷ asked 22 T ∷ []) ∷ [])

diamond-is : is_declared_well diamond ≡ true
diamond-is = refl

circle-is-not : is_declared_well (of_traits (trait_of 20 base (asked 21 T ∷ []) ∷ trait_of 21 base (asked 22 T ∷ []) ∷ trait_of 22 base (asked 20 T ∷ []) ∷ [])) ≡ false
circle-is-not = refl

own-supertrait-is-not : is_declared_well (of_traits (trait_of 20 base (asked 20 T ∷ []) ∷ [])) ≡ false
own-supertrait-is-not = refl

-- `trait Sub<'a>: Sup<'a>` holds a lifetime parameter in its bound
lifetime-in-bound-is-not : is_declared_well (of_traits (trait_of 20 base [] ∷ trait_of 21 base (to 20 T (leaf (param of_lifetime 1)) ∷ []) ∷ [])) ≡ false
lifetime-in-bound-is-not = refl

-- `impl<T> Show for V<T> where T: Show`
impl-is : is_declared_well (of_impl (impl_of 100 base 1 (asked 20 (applied 10 T)) (asked 20 T ∷ []))) ≡ true
impl-is = refl

-- `impl<T> Show for u8 where T: Show`
free-parameter-is-not : is_declared_well (of_impl (impl_of 100 base 1 (asked 20 u8) (asked 20 T ∷ []))) ≡ false
free-parameter-is-not = refl

-- parameter 0 of an impl without parameters
uncounted-parameter-is-not : is_declared_well (of_impl (impl_of 100 base 0 (asked 20 (applied 10 T)) [])) ≡ false
uncounted-parameter-is-not = refl

-- parameter 0 as a type and as a constant
two-sorts-are-not : is_declared_well (of_impl (impl_of 100 base 1 (asked 20 (applied 10 (tree (param of_type 0) none (leaf (param of_const 0))))) [])) ≡ false
two-sorts-are-not = refl

-- two structs of one name, and a field of two terms
two-structs-are-not : is_declared_well (beside_core (struct 10 base [] ∷ struct 10 base [] ∷ []) [] []) ≡ false
two-structs-are-not = refl

wide-field-is-not : is_declared_well (beside_core (struct 10 base (tree (param of_type 0) none T ∷ []) ∷ []) [] []) ≡ false
wide-field-is-not = refl
