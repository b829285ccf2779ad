-- What a text gives is known from its first 67,108,865 bytes.
use Rattle.std.proofs.Common.{◌≡◌, ℕ, ◌+◌, ◌≤◌, ◌==◌, List, length, take, Result, Err, sym, ap, subst, length-take, arith, count_by, lit≤}
use Rattle.std.proofs.lemmas.List.{take_all, take-take}
use Rattle.text_language.specs.Promised.Declarations.{Declarations}
use Rattle.text_language.specs.Text.{TextGives, too_long, fits}
use Rattle.text_language.specs.Promised.Text.{long_line}

ends-in : (m n : ℕ) (bytes : List ℕ) → m ≤ n → count_by (λ b. b == 10) (take m (take n bytes)) + 1 ≡ count_by (λ b. b == 10) (take m bytes) + 1
ends-in m n bytes h = ap (λ (bs : List ℕ). count_by (λ b. b == 10) bs + 1) (take-take m n bytes h)

same-line : (bytes : List ℕ) → long_line (take 67108865 bytes) ≡ long_line bytes
same-line bytes = ends-in 67108864 67108865 bytes (lit≤ tt)

pub text-of-first : (bytes : List ℕ) (r : Result Declarations (ℕ × ℕ)) → TextGives (take 67108865 bytes) r → TextGives bytes r
text-of-first bytes r (too_long h) = subst (λ k. TextGives bytes (Err (k, 16))) (sym (same-line bytes)) (too_long (omega (arith, length-take 67108865 bytes)))
text-of-first bytes r (fits _ h g) =
    let short : length bytes ≤ 67108865 = omega (arith, length-take 67108865 bytes) in
    let whole : take 67108865 bytes ≡ bytes = take_all 67108865 bytes short in
    subst (λ (bs : List ℕ). TextGives bs r) whole (fits r h g)

pub first-of-text : (bytes : List ℕ) (r : Result Declarations (ℕ × ℕ)) → TextGives bytes r → TextGives (take 67108865 bytes) r
first-of-text bytes r (too_long h) = subst (λ k. TextGives (take 67108865 bytes) (Err (k, 16))) (same-line bytes) (too_long (omega (arith, length-take 67108865 bytes)))
first-of-text bytes r (fits _ h g) =
    let short : length bytes ≤ 67108865 = omega (arith, h) in
    let whole : take 67108865 bytes ≡ bytes = take_all 67108865 bytes short in
    subst (λ (bs : List ℕ). TextGives bs r) (sym whole) (fits r h g)
