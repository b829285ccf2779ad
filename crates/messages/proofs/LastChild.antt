-- What becomes of the last child.
use Rattle.std.proofs.Common.{◌≡◌, ℕ, zero, suc, ◌+◌, List, [], ◌∷◌, map, length, slice_set, ap, arith}
use Rattle.std.specs.List.{HoldsAt}
use Rattle.messages.specs.Told.{change_last}

-- The last element, at i, is replaced by one that f reads as what the old one becomes.
pub last-changed : {X Y : Type 0} (f : X → Y) (becomes : Y → Y) (xs : List X) (i : ℕ) (w d : X)
    → i + 1 ≡ length xs → HoldsAt (λ x. f w ≡ becomes (f x)) xs i → map f (slice_set xs i w) ≡ change_last becomes (map f xs)
last-changed f becomes [] i w d e h = absurd (omega (arith, e))
last-changed f becomes (x ∷ []) zero w d e h = ap (λ y. y ∷ []) (h d)
last-changed f becomes (x ∷ []) (suc i) w d e h = absurd (omega (arith, e))
last-changed f becomes (x ∷ y ∷ ys) zero w d e h = absurd (omega (arith, e))
last-changed f becomes (x ∷ y ∷ ys) (suc i) w d e h = ap (λ zs. f x ∷ zs) (last-changed f becomes (y ∷ ys) i w d (omega (arith, e)) h)
