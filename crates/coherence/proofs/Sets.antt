-- Lists in which one element is set, or to which one is added.
use Rattle.std.proofs.Common.{◌≡◌, ℕ, zero, suc, ◌<◌, ◌⊎◌, inl, inr, List, [], ◌∷◌, ◌++◌, length, set, Some, refl, ap, arith}
use Rattle.std.specs.List.{slice_get}
use Rattle.std.proofs.lemmas.Option.{same_Some}

pub set-here : {A : Type 0} (xs : List A) (k : ℕ) (x : A) → k < length xs → slice_get (set xs k x) k ≡ Some x
set-here [] k x h = absurd (omega (arith, h))
set-here (y ∷ xs) zero x h = refl
set-here (y ∷ xs) (suc k) x h = set-here xs k x (omega (arith, h))

pub set-elsewhere : {A : Type 0} (xs : List A) (k : ℕ) (x : A) (j : ℕ) → (j ≡ k → ⊥) → slice_get (set xs k x) j ≡ slice_get xs j
set-elsewhere [] k x j h = refl
set-elsewhere (y ∷ xs) zero x zero h = absurd (h refl)
set-elsewhere (y ∷ xs) zero x (suc j) h = refl
set-elsewhere (y ∷ xs) (suc k) x zero h = refl
set-elsewhere (y ∷ xs) (suc k) x (suc j) h = set-elsewhere xs k x j (λ e. h (ap suc e))

-- an element of a list with one more is the new one, or was there
pub snoc-get : {A : Type 0} (xs : List A) (y : A) (k : ℕ) (x : A) → slice_get (xs ++ y ∷ []) k ≡ Some x → (slice_get xs k ≡ Some x) ⊎ (y ≡ x)
snoc-get [] y zero x h = inr (same_Some y x h)
snoc-get [] y (suc k) x h = absurd cc
snoc-get (z ∷ xs) y zero x h = inl h
snoc-get (z ∷ xs) y (suc k) x h = snoc-get xs y k x h
