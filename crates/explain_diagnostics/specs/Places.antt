-- Ranges in a line.
use Rattle.std.specs.Prelude.{◌≡◌, ◌<◌, ◌≤◌, ◌==◌, ◌&&◌, ℕ, Bool, true, false, List, nat_le, nat_lt}
use Rattle.std.specs.List.{HoldsAt, list_any}
use Rattle.explain_diagnostics.specs.declared.span.Place.{Place}

-- A range of a line with this length. It is not empty.
abbrev pub IsPartOfLine : ℕ → Place → Type 0
IsPartOfLine end p = (p.start < p.end) × (p.end ≤ end)

-- A range of a line with this length. It may be empty.
abbrev pub IsPartOf : ℕ → Place → Type 0
IsPartOf end p = (p.start ≤ p.end) × (p.end ≤ end)

-- A byte lies in one of the ranges.
abbrev pub is_covered : List Place → ℕ → Bool
is_covered places at = list_any (λ (p : Place). nat_le p.start at && nat_lt at p.end) places

-- Each byte of the line before this one lies in one of the ranges, but for spaces.
abbrev pub CoverUpTo : List ℕ → List Place → ℕ → Type 0
CoverUpTo line places end = (at : ℕ) → at < end → HoldsAt (λ b. (b == 32) ≡ false) line at → is_covered places at ≡ true
