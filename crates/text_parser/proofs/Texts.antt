-- The first line of a text and what stands behind it.
use Rattle.std.proofs.Common.{◌≡◌, ℕ, suc, ◌-◌, ◌≤◌, true, false, not, cond, eqb, List, [], ◌∷◌, length, take, drop, refl, sym, ap, ◌∙◌, inl, inr, sub-one, arith}
use Rattle.std.proofs.Math.Seq.{take-length}
use Rattle.std.specs.Prelude.{take_while, ◌==◌}
use Rattle.std.proofs.lemmas.Bool.{cases_Bool}
use Rattle.std.proofs.lemmas.List.Sums.{take_while-cons}
use Rattle.text_language.specs.Text.{onto_line, lines_of}

-- the lines behind the end of a line
abbrev pub lines_after : List ℕ → List (List ℕ)
lines_after [] = []
lines_after (c ∷ r) = lines_of r

line-len : (b : ℕ) (r : List ℕ) → eqb b 10 ≡ false → length (take_while (λ c. not (c == 10)) (b ∷ r)) ≡ suc (length (take_while (λ c. not (c == 10)) r))
line-len b r h = ap length (take_while-cons (λ c. not (c == 10)) b r ∙ ap (λ t. cond (not t) (b ∷ take_while (λ c. not (c == 10)) r) []) h)

no-len : (b : ℕ) (r : List ℕ) → eqb b 10 ≡ true → length (take_while (λ c. not (c == 10)) (b ∷ r)) ≡ 0
no-len b r h = ap length (take_while-cons (λ c. not (c == 10)) b r ∙ ap (λ t. cond (not t) (b ∷ take_while (λ c. not (c == 10)) r) []) h)

unfoldable pub lines-at : ℕ → List ℕ → List (List ℕ)
lines-at n bs = take n bs ∷ lines_after (drop n bs)

pub lines-split : (bs : List ℕ) → lines_of bs ≡ lines-at (length (take_while (λ c. not (c == 10)) bs)) bs
unfolding lines-at
lines-split [] = refl
lines-split (b ∷ r) =
    elim (cases_Bool (eqb b 10)) [
      | inl h ↦ rw (no-len b r h) (rw h refl)
      | inr h ↦ rw (line-len b r h) (rw h (ap (onto_line b) (lines-split r)))
    ]

pub split_is : (bs line after : List ℕ) (n : ℕ) → n ≡ length (take_while (λ c. not (c == 10)) bs) → line ≡ take n bs → after ≡ drop n bs → lines_of bs ≡ line ∷ lines_after after
unfolding lines-at
split_is bs line after n e f b =
    let first : lines-at n bs ≡ line ∷ lines_after after = rw (← f, ← b) refl in
    lines-split bs ∙ ap (λ m. lines-at m bs) (sym e) ∙ first

pub others_are : (after : List ℕ) → 1 ≤ length after → lines_after after ≡ lines_of (take (length after - 1) (drop 1 after))
others_are [] h = absurd (omega arith)
others_are (c ∷ r) h = let e : take (length (c ∷ r) - 1) (drop 1 (c ∷ r)) ≡ r = rw sub-one (take-length r) in ap lines_of (sym e)
