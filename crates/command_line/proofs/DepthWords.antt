-- Words of digits, one digit at a time.
use Rattle.std.proofs.Common.{◌≡◌, ℕ, zero, suc, ◌+◌, ◌*◌, ◌<◌, List, [], ◌∷◌, ◌++◌, length, get_or, take, arith, subst, ap, sym, ◌∙◌, add-one}
use Rattle.std.proofs.Math.Seq.{take-suc}
use Rattle.std.specs.Char.{digit_value, IsNotAsciiDigit}
use Rattle.std.specs.Str.Parse.{AllDigits, digits_value}
use Rattle.std.proofs.lemmas.Int.Digits.{digits_value_push}
use Rattle.std.proofs.lemmas.Str.Parse.{digit_from_value}

pub digit-at : (word : List ℕ) (i : ℕ) → AllDigits 10 word → i < length word → digit_value (get_or word i 0) < 10
digit-at [] i h within = absurd (omega arith)
digit-at (c ∷ word) zero h within = h.0
digit-at (c ∷ word) (suc i) h within = digit-at word i h.1 (omega arith)

push-digit : (word : List ℕ) (c : ℕ) → AllDigits 10 word → digit_value c < 10 → AllDigits 10 (word ++ c ∷ [])
push-digit [] c h d = (d, tt)
push-digit (b ∷ word) c h d = (h.0, push-digit word c h.1 d)

one-more : (word : List ℕ) (i : ℕ) → i < length word → take (i + 1) word ≡ take i word ++ get_or word i 0 ∷ []
one-more word i within = ap (λ n. take n word) (add-one i) ∙ take-suc word i 0 within

pub more-digits : (word : List ℕ) (i : ℕ) → i < length word → AllDigits 10 (take i word) → digit_value (get_or word i 0) < 10 → AllDigits 10 (take (i + 1) word)
more-digits word i within h d = subst (AllDigits 10) (sym (one-more word i within)) (push-digit (take i word) (get_or word i 0) h d)

pub more-value : (word : List ℕ) (i n : ℕ) → i < length word → digits_value 10 (take i word) ≡ n → digits_value 10 (take (i + 1) word) ≡ n * 10 + digit_value (get_or word i 0)
more-value word i n within e =
    ap (digits_value 10) (one-more word i within) ∙ digits_value_push 10 (take i word) (get_or word i 0) ∙ ap (λ k. k * 10 + digit_value (get_or word i 0)) e

pub no-digit : (c : ℕ) → IsNotAsciiDigit c → digit_value c < 10 → ⊥
no-digit c h d = let r = digit_from_value c d in omega (arith, r.0, r.1)
