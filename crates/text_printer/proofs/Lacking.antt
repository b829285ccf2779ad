-- Which bytes names, numbers and texts of types lack.
use Rattle.std.proofs.Common.{◌≡◌, inl, inr, ℕ, ◌<◌, ◌≤◌, Bool, true, false, not, ◌&&◌, ◌==◌, List, [], ◌∷◌, ◌++◌, refl, ap, ◌∙◌, arith}
use Rattle.std.specs.Fmt.{decimal}
use Rattle.std.specs.List.{list_all}
use Rattle.std.specs.Char.{digit_value}
use Rattle.std.specs.Str.Parse.{AllDigits}
use Rattle.std.proofs.lemmas.Bool.{cases_eq}
use Rattle.std.proofs.lemmas.Str.Parse.{digit_from_value}
use Rattle.std.proofs.lemmas.Fmt.{decimal_is_IsNumeral}
use Rattle.std.proofs.lemmas.List.Folds.{list_all-append}
use Rattle.text_language.specs.Words.{is_word_byte, is_digit}
use Rattle.text_printer.specs.Told.{IsName, IsTermText, is_term_byte, IsNumber}
use Rattle.text_printer.proofs.Cuts.{Lacks}

other-byte : (b c : ℕ) → (b ≡ c → ⊥) → (b == c) ≡ false
other-byte b c h = grind arith

byte-lacks : (c : ℕ) (p : ℕ → Bool) → p c ≡ false → (b : ℕ) → p b ≡ true → not (b == c) ≡ true
byte-lacks c p h b k =
    elim (cases_eq b c) [
      | inl e ↦ let q : p b ≡ p c = ap p e in let r : p b ≡ false = q ∙ h in cc
      | inr n ↦ let q : (b == c) ≡ false = other-byte b c n in rw q refl
    ]

both-parts : (p q : Bool) → (p && q) ≡ true → (p ≡ true) × (q ≡ true)
both-parts true q h = (refl, h)
both-parts false q h = cc

-- bytes of a kind that c is not of
pub kind-lacks : (c : ℕ) (p : ℕ → Bool) → p c ≡ false → (u : List ℕ) → list_all p u ≡ true → Lacks c u
kind-lacks c p h [] k = refl
kind-lacks c p h (b ∷ u) k =
    let (first, rest) = both-parts (p b) (list_all p u) k in
    let q : not (b == c) ≡ true = byte-lacks c p h b first in
    let r : Lacks c u = kind-lacks c p h u rest in
    rw (q, r) refl

pub name-lacks : (c : ℕ) → is_word_byte c ≡ false → (n : List ℕ) → IsName n → Lacks c n
name-lacks c h n k = kind-lacks c is_word_byte h n k

pub term-lacks : (c : ℕ) → is_term_byte c ≡ false → (n : List ℕ) → IsTermText n → Lacks c n
term-lacks c h n k = kind-lacks c is_term_byte h n k

digit-byte : (b : ℕ) → digit_value b < 10 → is_digit b ≡ true
digit-byte b h = let r = digit_from_value b h in let p : 48 ≤ b = r.0 in let q : b ≤ 57 = r.1 in grind arith

digit-bytes : (ds : List ℕ) → AllDigits 10 ds → list_all is_digit ds ≡ true
digit-bytes [] h = refl
digit-bytes (d ∷ ds) h =
    let p : is_digit d ≡ true = digit-byte d h.0 in
    let q : list_all is_digit ds ≡ true = digit-bytes ds h.1 in
    rw (p, q) refl

pub number-lacks : (c : ℕ) → is_digit c ≡ false → (n : ℕ) → IsNumber n → Lacks c (decimal n)
number-lacks c h n k = kind-lacks c is_digit h (decimal n) (digit-bytes (decimal n) (decimal_is_IsNumeral n (omega arith)).0.1)

-- of two lists together
pub both-lack : (c : ℕ) (u v : List ℕ) → Lacks c u → Lacks c v → Lacks c (u ++ v)
both-lack c u v h k = list_all-append (λ b. not (b == c)) u v ∙ rw (h, k) refl
