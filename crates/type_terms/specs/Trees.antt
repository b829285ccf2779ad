-- Functions of terms: tests, flags, depth, and matching with a pattern.
use Rattle.std.specs.Prelude.{◌≡◌, ℕ, Bool, true, false, max, pred, zero, suc, bit_or, ◌&&◌, ◌==◌, if◌then◌else◌, Option, Some, None}
use Rattle.type_terms.specs.Promised.Label.{Label, Sort, of_type, of_const, of_lifetime, param, placeholder, infer, canonical, bound, fn_ptr, principal, never, static}
use Rattle.type_terms.specs.Promised.Trees.{Trees, none, tree, ◌+++◌, nth, sort_of, is_sort, leaf}

-- The list is empty.
abbrev pub is_no_tree : Trees → Bool
is_no_tree none = true
is_no_tree (tree l c o) = false

-- `IsA` as a test.
abbrev pub is_a : Sort → Trees → Bool
is_a s none = false
is_a of_lifetime (tree l c o) = is_sort (sort_of l) of_lifetime && (is_no_tree c && is_no_tree o)
is_a s (tree l c o) = is_sort (sort_of l) s && is_no_tree o

-- `Fits` as a test.
abbrev pub fits : Trees → Trees → Bool
fits A none = true
fits A (tree (param s i) c o) = is_a s (nth A i) && (is_no_tree c && fits A o)
fits A (tree l c o) = fits A c && fits A o

-- One more than the binder number of the label itself, or 0.
abbrev pub own_binder : Label → ℕ
own_binder (bound s k v) = suc k
own_binder _ = zero

-- The outer binder of a node, by the outer binder of its children.
abbrev pub outside : Label → ℕ → ℕ
outside (fn_ptr _) n = pred n
outside (principal _ _) n = pred n
outside _ n = n

-- One more than the greatest binder number that refers to a binder outside of the terms, or 0 (rustc:
-- `outer_exclusive_binder`). For example, 1 for the `&'a u8` in `for<'a> fn(&'a u8)`, and 0 for the whole type.
abbrev pub outer_binder : Trees → ℕ
outer_binder none = zero
outer_binder (tree l c o) = max (max (own_binder l) (outside l (outer_binder c))) (outer_binder o)

-- The flags of a label (rustc: `TypeFlags`). There is one for parameters, inference variables, placeholders and bound
-- variables, each for types, lifetimes and constants, one for a binder that has a lifetime, and one for `'static`.
abbrev pub label_flags : Label → ℕ
label_flags (param of_type _) = 1
label_flags (infer of_type _) = 2
label_flags (placeholder of_type _) = 4
label_flags (bound of_type _ _) = 8
label_flags (canonical of_type _) = 8
label_flags (param of_lifetime _) = 16
label_flags (infer of_lifetime _) = 32
label_flags (placeholder of_lifetime _) = 64
label_flags (bound of_lifetime _ _) = 128
label_flags (canonical of_lifetime _) = 128
label_flags (param of_const _) = 256
label_flags (infer of_const _) = 512
label_flags (placeholder of_const _) = 1024
label_flags (bound of_const _ _) = 2048
label_flags (canonical of_const _) = 2048
label_flags (fn_ptr (suc n)) = 4096
label_flags (principal (suc n) t) = 4096
label_flags static = 8192
label_flags _ = 0

-- The union of the flags of all nodes.
abbrev pub flags : Trees → ℕ
flags none = 0
flags (tree l c o) = bit_or (bit_or (label_flags l) (flags c)) (flags o)

-- The greatest number of nodes above one another. For example, 2 for `V<u8>`.
abbrev pub depth : Trees → ℕ
depth none = zero
depth (tree l c o) = max (suc (depth c)) (depth o)

-- The first of the two that is not empty.
abbrev pub first_of : Trees → Trees → Trees
first_of none y = y
first_of (tree l c o) y = tree l c o

-- What t has at the first position at which the pattern p has parameter i. For example, u8 for the T of `V<T>` in
-- `V<u8>`.
abbrev pub standing_at : ℕ → Trees → Trees → Trees
standing_at i none t = none
standing_at i (tree l c o) none = none
standing_at i (tree (param s j) pc po) (tree m c o) = if i == j then tree m c none else standing_at i po o
standing_at i (tree l pc po) (tree m c o) = first_of (standing_at i pc c) (standing_at i po o)

-- The arguments for the n parameters from k, read from t by the pattern p. It is `!` for a parameter that p does not
-- mention.
abbrev pub arguments_from : ℕ → ℕ → Trees → Trees → Trees
arguments_from k zero p t = none
arguments_from k (suc n) p t = first_of (standing_at k p t) (leaf never) +++ arguments_from (suc k) n p t

-- The arguments for n parameters, read from t by the pattern p. For example, `V<T>` and `V<u8>` give [u8].
abbrev pub arguments : ℕ → Trees → Trees → Trees
arguments n p t = arguments_from 0 n p t

-- The list has one term.
abbrev pub Single : Trees → Type 0
Single none = ⊥
Single (tree l c o) = o ≡ none

-- What a folder puts at a node: the terms that it returns, or else the node itself with its children folded.
abbrev pub put_at_node : Option Trees → Trees → Trees
put_at_node None t = t
put_at_node (Some r) t = r
