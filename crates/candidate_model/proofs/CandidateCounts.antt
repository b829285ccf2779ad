-- How many bounds and supertraits there are.
use Rattle.std.proofs.Common.{ℕ, zero, suc, ◌≤◌, List, [], ◌∷◌, length, arith}
use Rattle.type_terms.specs.Promised.Worlds.{World, Reference}
use Rattle.type_terms.specs.Promised.Rules.{strict_supertraits}
use Rattle.declarations.specs.Promised.Elaboration.{off_stack, all_levels, elaborate, new_of, pushed, rest_of, supertraits}
use Rattle.type_terms.proofs.ListBasics.{length-append}

-- no more references come off the stack than there is fuel
pub off-few : (n : ℕ) (V : World) (before stack : List Reference) → length (off_stack n V before stack) ≤ n
off-few zero V before stack = omega arith
off-few (suc n) V before [] = omega arith
off-few (suc n) V before (r ∷ stack) = off-next n (off_stack n V _ _) (off-few n V _ _)
  where
    off-next : (k : ℕ) (xs : List Reference) → length xs ≤ k → suc (length xs) ≤ suc k
    off-next k xs h = omega (arith, h)

pub elaborate-few : (V : World) (rs : List Reference) → length (elaborate V rs) ≤ length (all_levels V rs)
elaborate-few V rs = off-few (length (all_levels V rs)) V (new_of [] rs) (pushed (new_of [] rs) [])

rest-few : {A : Type 0} (xs : List A) (n : ℕ) → length xs ≤ suc n → length (rest_of xs) ≤ n
rest-few [] n h = omega arith
rest-few (x ∷ xs) n h = omega (arith, h)

-- a reference has no more supertraits in the list than there are paths to them
pub supertraits-few : (V : World) (r : Reference) → length (supertraits V r) ≤ length (strict_supertraits V r)
supertraits-few V r =
    let e = elaborate-few V (r ∷ []) in
    let l = length-append (strict_supertraits V r) [] in
    rest-few (elaborate V (r ∷ [])) (length (strict_supertraits V r)) (omega (arith, e, l))
