-- Orders of indices and of counts, on numbers alone.
use Rattle.std.proofs.Common.{◌≡◌, ℕ, ◌+◌, ◌-◌, ◌^◌, ◌<◌, ◌≤◌, min, arith}

pub from_zero : (n m : ℕ) → n ≡ 0 → n ≤ m
from_zero n m e = omega arith

pub within_more : (n m k : ℕ) → n ≤ m → m ≤ k → n ≤ k
within_more n m k h l = omega arith

pub less_within : (n m k : ℕ) → n < m → m ≤ k → n < k
less_within n m k h l = omega arith

-- counts of frames: none was started, or one
pub none_started : (now first x : ℕ) → now ≡ first → now ≤ first + x
none_started now first x e = omega arith

pub one_started : (now first x : ℕ) → now ≤ first + 1 → now ≤ first + (1 + x)
one_started now first x h = omega arith

pub none_counted : (now first : ℕ) → now ≡ first → first ≤ now
none_counted now first e = omega arith

pub one_counted : (now first : ℕ) → now ≡ min (first + 1) (2 ^ 64 - 1) → min (first + 1) (2 ^ 64 - 1) ≤ now
one_counted now first e = omega arith

pub counted_later : (first now then : ℕ) → first ≤ now → min (now + 1) (2 ^ 64 - 1) ≤ then → min (first + 1) (2 ^ 64 - 1) ≤ then
counted_later first now then h k = omega arith

pub not_less : (n : ℕ) → n < n → ⊥
not_less n h = omega arith
