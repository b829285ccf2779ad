-- The width of terms. No frame makes terms wider than those that it gets.
use Rattle.std.specs.Prelude.{ℕ, zero, suc, max}
use Rattle.type_terms.specs.Promised.Label.{Label, principal}
use Rattle.type_terms.specs.Promised.Trees.{Trees, none, tree}

-- the number of terms in this list
abbrev pub count : Trees → ℕ
count none = zero
count (tree l c o) = suc (count o)

-- The number of terms at a node with this label and `n` children. A bound of a `dyn` type counts its arguments and the self type,
-- which is not stored. Without arguments it counts none, since every trait reference has at least a self type.
abbrev pub with_self : Label → ℕ → ℕ
with_self (principal m i) zero = zero
with_self (principal m i) (suc n) = suc (suc n)
with_self l n = n

-- The greatest number of terms at a node of these terms. The list itself is not counted. Both `V<(u8, char, bool), str>` and `dyn
-- Convert<u8, char>` have width 3. The second is a bound `T: Convert<u8, char>` without its self type.
abbrev pub width : Trees → ℕ
width none = zero
width (tree l c o) = max (with_self l (count c)) (max (width c) (width o))
