-- Each step leaves less to do: three times the cells left, and what is open.
use Rattle.std.proofs.Common.{◌≡◌, ℕ, zero, suc, ◌+◌, ◌*◌, List, length, refl, sym, ap, ◌∙◌}
use Rattle.text_lines.specs.Cells.{Cell}
use Rattle.text_names.specs.Machine.{Sight, Found, WalkState, visiting, going, finished, step, run, WalkReaches}

abbrev pub weight : WalkState → ℕ
weight (visiting pl fs s r a) = 3 * length r + length fs + 1
weight (going fs s r a) = 3 * length r + length fs + 2
weight (finished r a) = 0

-- ---- one end
stays : (v : Sight) (n : ℕ) (r : List Cell) (a : Found) → run v n (finished r a) ≡ finished r a
stays v zero r a = refl
stays v (suc n) r a = stays v n r a

found-of : WalkState → Found → Found
found-of (finished r a) b = a
found-of _ b = b

-- a state comes to one end
pub one-end : (v : Sight) (n m : ℕ) (x : WalkState) (r q : List Cell) (a b : Found) → run v n x ≡ finished r a → run v m x ≡ finished q b → a ≡ b
unfolding found-of
one-end v zero m x r q a b e f = ap (λ y. found-of y b) (sym (stays v m r a) ∙ ap (run v m) (sym e) ∙ f)
one-end v (suc n) zero x r q a b e f = ap (λ y. found-of y b) (sym e ∙ ap (run v (suc n)) f ∙ stays v (suc n) q b)
one-end v (suc n) (suc m) x r q a b e f = one-end v n m (step v x) r q a b e f

-- one step more
pub leads : (v : Sight) (x z : WalkState) → step v x ≡ z → (y : WalkState) → WalkReaches v z y → WalkReaches v x y
leads v x z e y h = (suc h.0, ap (run v h.0) e ∙ h.1)
