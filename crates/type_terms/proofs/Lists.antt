-- Lists by index.
use Rattle.std.proofs.Common.{◌≡◌, ℕ, zero, suc, ◌+◌, Bool, true, List, [], ◌∷◌, ◌++◌, length, map, refl, ap, arith, Some, get_or, subst}
use Rattle.std.specs.Prelude.{position}
use Rattle.std.specs.List.{slice_get, AllByRecursion}
use Rattle.std.proofs.lemmas.Option.{slice_get-get_or}
use Rattle.std.proofs.lemmas.List.Quantifiers.{position-Some}

module _ {X : Type 0} where
  pub slice_get-append : (xs ys : List X) (i : ℕ) (x : X) → slice_get xs i ≡ Some x → slice_get (xs ++ ys) i ≡ Some x
  slice_get-append [] ys i x h = cc
  slice_get-append (y ∷ xs) ys zero x h = h
  slice_get-append (y ∷ xs) ys (suc i) x h = slice_get-append xs ys i x h

  pub slice_get-last : (xs : List X) (y : X) → slice_get (xs ++ y ∷ []) (length xs) ≡ Some y
  slice_get-last [] y = refl
  slice_get-last (x ∷ xs) y = slice_get-last xs y

  pub slice_get-position : (p : X → Bool) (xs : List X) (i : ℕ) (d : X) → position p xs ≡ Some i → (x : X) × (slice_get xs i ≡ Some x) × (p x ≡ true)
  slice_get-position p xs i d h =
      let at = position-Some p xs i d h in
      (get_or xs i d, slice_get-get_or xs i d at.0, at.1)

  pub slice_get-map : {Y : Type 0} (f : X → Y) (xs : List X) (i : ℕ) (x : X) → slice_get xs i ≡ Some x → slice_get (map f xs) i ≡ Some (f x)
  slice_get-map f [] i x h = cc
  slice_get-map f (y ∷ xs) zero x h = let e : y ≡ x = cc in ap (λ z. Some (f z)) e
  slice_get-map f (y ∷ xs) (suc i) x h = slice_get-map f xs i x h

  pub length-push : (xs : List X) (y : X) → length (xs ++ y ∷ []) ≡ length xs + 1
  length-push [] y = refl
  length-push (x ∷ xs) y = omega (arith, length-push xs y)

  pub map-push : {Y : Type 0} (f : X → Y) (xs : List X) (y : X) → map f (xs ++ y ∷ []) ≡ map f xs ++ f y ∷ []
  map-push f [] y = refl
  map-push f (x ∷ xs) y = ap (λ l. f x ∷ l) (map-push f xs y)

  pub all-at : (P : X → Type 0) (xs : List X) (i : ℕ) (x : X) → AllByRecursion P xs → slice_get xs i ≡ Some x → P x
  all-at P [] i x a h = cc
  all-at P (y ∷ xs) zero x a h = let same : y ≡ x = cc in subst P same a.0
  all-at P (y ∷ xs) (suc i) x a h = all-at P xs i x a.1 h

  -- what holds of each element, and of one more, holds of each of them all
  pub all-push : (P : ℕ → X → Type 0) (xs : List X) (y : X) → ((i : ℕ) (x : X) → slice_get xs i ≡ Some x → P i x) → P (length xs) y
      → (i : ℕ) (x : X) → slice_get (xs ++ y ∷ []) i ≡ Some x → P i x
  all-push P [] y a p zero x h = let same : y ≡ x = cc in subst (P 0) same p
  all-push P [] y a p (suc i) x h = cc
  all-push P (z ∷ xs) y a p zero x h = a zero x h
  all-push P (z ∷ xs) y a p (suc i) x h = all-push (λ j w. P (suc j) w) xs y (λ j w g. a (suc j) w g) p i x h
