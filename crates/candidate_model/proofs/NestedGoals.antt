-- The nested goals of a goal's candidates are few, and the number that bounds them is less than is asked.
use Rattle.std.proofs.Common.{◌≡◌, ◌≤◌, ◌<◌, ◌+◌, ◌*◌, ℕ, zero, max, List, [], ◌∷◌, map, length, arith}
use Rattle.std.proofs.lemmas.Nat.{mul-le}
use Rattle.std.proofs.Math.Nat.{le_refl}
use Rattle.std.specs.Prelude.{fold}
use Rattle.type_terms.specs.Promised.Proofs.{In}
use Rattle.type_terms.specs.Promised.Worlds.{World, TraitDecl}
use Rattle.type_terms.proofs.Members.{here, there}
use Rattle.candidate_model.specs.NestedGoals.{NestedGoalsAreFew, NumberIsSmall}
use Rattle.candidate_model.specs.Promised.Widths.{clauses_in, declared_width, greatest, supers_of, supertraits_in, width_of}
use Rattle.candidate_model.proofs.CandidateBounds.{candidates-are-few}
use Rattle.candidate_model.proofs.DeclaredWidths.{greatest-at}

pub nested-goals-are-few : NestedGoalsAreFew
nested-goals-are-few m well f a is = (candidates-are-few m well.one_struct well.rank well.acyclic).1 f a is

-- ---- the number is small
-- the greatest is no more than a number that each is no more than
within-each : {A : Type 0} (f : A → ℕ) (xs : List A) (z n : ℕ) → z ≤ n → ((x : A) → In x xs → f x ≤ n) → fold max z (map f xs) ≤ n
within-each f [] z n h g = h
within-each f (x ∷ xs) z n h g = within-each f xs (max z (f x)) n (both z (f x) n h (g x (here x xs))) (λ y i. g y (there y x xs i))
  where
    both : (a b n : ℕ) → a ≤ n → b ≤ n → max a b ≤ n
    both a b n h g = omega (arith, h, g)

supertraits-within : (V : World) (m : ℕ) → declared_width V ≤ m → supertraits_in V ≤ m
supertraits-within V m h =
    within-each (supers_of V) V.traits zero m (omega arith)
    (λ x i. by (supers_of V x) (max (length x.bounds) (greatest width_of x.bounds)) _ _ _ (greatest-at (λ (y : TraitDecl). max (supers_of V y) (max (length y.bounds) (greatest width_of y.bounds))) V.traits x i) h)
  where
    by : (s q t u v : ℕ) → max s q ≤ t → max u (max t v) ≤ m → s ≤ m
    by s q t u v f g = omega (arith, f, g)

square : (m : ℕ) → (m + 2) * (m + 2) ≡ m * m + (4 * m + 4)
square m = grind arith

pub number-is-small : NumberIsSmall
number-is-small V m h = total (clauses_in V) (supertraits_in V) (m * supertraits_in V) (m * m) ((m + 2) * (m + 2)) (supertraits-within V m h) (mul-le m (supertraits_in V) m m (le_refl m) (supertraits-within V m h)) (square m)
  where
    total : (k s p q r : ℕ) → s ≤ m → p ≤ q → r ≡ q + (4 * m + 4) → k + (s + ((m + (m + 2)) + (s + p))) < k + r
    total k s p q r f g e = omega (arith, f, g, e)
