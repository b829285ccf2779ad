-- The variables of a query, and their values.
use Rattle.std.specs.Prelude.{ℕ, suc, List, [], ◌∷◌, map}
use Rattle.type_terms.specs.Promised.Label.{Sort, of_type, of_const, of_lifetime, infer}
use Rattle.type_terms.specs.Promised.Trees.{Trees, leaf, erase}
use Rattle.infer_table.specs.Solutions.{Binding, resolved}

-- The variables of these kinds, in the order of first occurrence, after this many of types and of constants.
abbrev pub unknowns_from : (types consts : ℕ) → List Sort → List Trees
unknowns_from t c [] = []
unknowns_from t c (of_type ∷ ks) = leaf (infer of_type t) ∷ unknowns_from (suc t) c ks
unknowns_from t c (of_const ∷ ks) = leaf (infer of_const c) ∷ unknowns_from t (suc c) ks
unknowns_from t c (of_lifetime ∷ ks) = leaf (infer of_lifetime 0) ∷ unknowns_from t c ks

-- Those of one kind count from 0.
abbrev pub unknowns_of : List Sort → List Trees
unknowns_of ks = unknowns_from 0 0 ks

-- Their values, without lifetimes.
abbrev pub values_in : List Binding → List Sort → List Trees
values_in bs ks = map (λ u. erase (resolved bs u)) (unknowns_of ks)
