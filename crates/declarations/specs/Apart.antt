-- Disjoint arguments: no impl with the one list matches a goal with the other.
use Rattle.std.specs.Prelude.{ℕ, zero, suc, Bool, true, false, ◌||◌, ◌&&◌, ◌==◌, not}
use Rattle.type_terms.specs.Promised.Label.{Label, array, slice, tuple, dynamic, adt, fn_ptr, ref, raw_pointer, principal}
use Rattle.type_terms.specs.Promised.Trees.{Trees, none, tree, erase_label}
use Rattle.type_terms.specs.Trees.{flags}
use Rattle.type_terms.specs.Codes.{same, same_label}
use Rattle.type_terms.specs.Promised.Answers.{is_open}

-- They have no open node and no lifetime, so that no substitution changes them.
abbrev pub is_fixed : Trees → Bool
is_fixed t = flags t == 0

-- A type whose parts are compared too, or the principal trait of a `dyn`. A binder binds only lifetimes, which are not compared.
abbrev pub has_parts : Label → Bool
has_parts array = true
has_parts slice = true
has_parts tuple = true
has_parts dynamic = true
has_parts (adt s) = true
has_parts (fn_ptr n) = true
has_parts (ref b) = true
has_parts (raw_pointer b) = true
has_parts (principal n t) = true
has_parts _ = false

-- Nodes with these labels can become one: one of them is open, so that anything can be substituted for it, or they are equal up to
-- lifetimes and their parts can become one.
abbrev pub tops_may_meet : Label → Label → Bool → Bool
tops_may_meet l m parts = is_open l || (is_open m || (same_label (erase_label l) (erase_label m) && (not (has_parts l) || parts)))

-- As far as n levels tell, some substitution makes the terms one. `V<T>, u8` and `V<bool>, ?x` can become one. `V<[T]>` and `V<&u8>` cannot,
-- as two levels tell. The bounds of a `dyn` with its auto traits are one level below it, and the principal's arguments two.
abbrev pub may_meet : ℕ → Trees → Trees → Bool
may_meet zero x y = true
may_meet (suc n) none none = true
may_meet (suc n) none (tree m d p) = false
may_meet (suc n) (tree l c o) none = false
may_meet (suc n) (tree l c o) (tree m d p) = tops_may_meet l m (may_meet n c d) && may_meet (suc n) o p

-- How many levels are compared.
abbrev pub levels : ℕ
levels = 9

-- They are disjoint: both are fixed and they differ, or their first levels differ. `[u8; 1]` and `[u8; 2]` are disjoint. So are `V<S, T>` and
-- `V<R, ?x>`, `fn(S) -> T` and `fn(R) -> T`, `dyn Tr<S>` and `dyn Tr<R>`. `[T; 2]` and `[u8; ?n]` are not.
abbrev pub are_apart : Trees → Trees → Bool
are_apart x y = (is_fixed x && (is_fixed y && not (same x y))) || not (may_meet levels x y)
