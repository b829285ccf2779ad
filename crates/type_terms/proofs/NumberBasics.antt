-- Small facts on numbers.
use Rattle.std.proofs.Common.{ℕ, ◌≤◌, ltb, ◌≡◌, true, arith, nat_eq, rules, pred, suc, zero, ◌==◌, false, ◌+◌, ◌<◌}
use Rattle.std.proofs.lemmas.Bool.Decides.{nat_tests}
use Rattle.std.specs.Bool.{Decides}
use Rattle.std.specs.Prelude.{max, nat_lt, ◌||◌}

pub less-kept : (n a b : ℕ) → a ≤ b → ltb n a ≡ true → ltb n b ≡ true
less-kept n a b h e = grind (arith, nat_tests)

pub number-eq : (a b : ℕ) → Decides (nat_eq a b) (a ≡ b)
number-eq a b = search rules

pub pred-le : (n d : ℕ) → pred n ≤ d → n ≤ suc d
pred-le zero d h = omega arith
pred-le (suc n) d h = omega arith

pub some-length : (n : ℕ) → (suc n == 0) ≡ false
some-length n = grind (arith, nat_tests)

pub zero-plus : (n : ℕ) → n ≡ 0 + n
zero-plus n = omega arith

pub is-number : (x y : ℕ) → (x == y) ≡ true → x ≡ y
is-number x y e = grind (arith, nat_tests)

pub other-number : (x y : ℕ) → (x == y) ≡ false → x ≡ y → ⊥
other-number x y e f = grind (arith, nat_tests)

pub place-here : (i : ℕ) → i ≡ i + zero
place-here i = omega arith

pub itself : (n : ℕ) → n ≤ n
itself n = omega arith

pub last-less : (n : ℕ) → n < suc n
last-less n = omega arith

pub next-number : (n : ℕ) → suc n ≡ n + 1
next-number n = omega arith

pub not-less : (n : ℕ) → n < n → ⊥
not-less n h = omega (arith, h)

pub number-self : (i : ℕ) → (i == i) ≡ true
number-self i = grind (arith, nat_tests)

pub one-more : (n : ℕ) → n ≤ n + 1
one-more n = omega arith

pub plus-one : (n : ℕ) → n + 1 ≡ suc n
plus-one n = omega arith

pub plus-zero : (n : ℕ) → n + 0 ≡ n
plus-zero n = omega arith

pub zero-first : (i : ℕ) → 0 + i ≡ i
zero-first i = omega arith

pub zero-more : (n : ℕ) → 0 + n ≡ n
zero-more n = omega arith

pub in-goal : (e p d c k : ℕ) → p ≡ max c (max k 0) → (c ≤ max (max e p) d) × (k ≤ max (max e p) d)
in-goal e p d c k h = (omega (arith, h), omega (arith, h))

pub one-up : (n : ℕ) → 1 + n ≡ suc n
one-up n = omega arith

pub lt-max : (n a b : ℕ) → nat_lt n (max a b) ≡ nat_lt n a || nat_lt n b
lt-max n a b = grind (arith, nat_tests)
