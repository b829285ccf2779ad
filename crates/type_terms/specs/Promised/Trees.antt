-- Terms: types, constants, lifetimes and lists of these. A list is given by its first term's label, that term's
-- children, and the rest of the list. For example, `V<u8>, bool` is
-- `tree (adt V) (tree (uint 0) none none) (tree bool none none)`.
use Rattle.std.specs.Prelude.{◌≡◌, ℕ, Bool, true, false, zero, suc, ◌||◌}
use Rattle.type_terms.specs.Promised.Label.{Label, Sort, of_type, of_const, of_lifetime, param, placeholder, infer, canonical, bound, fn_ptr, principal, value, inside, shift_label, never, static}

-- A list of terms: it is empty, or has a first term with its label and children, and the terms after it.
pub data Trees : Type 0 where
  none : Trees
  tree : Label → Trees → Trees → Trees
  deriving Discrete as Trees-discrete

infixr 40 ◌+++◌
-- One list of terms after the other.
abbrev pub ◌+++◌ : Trees → Trees → Trees
none +++ ys = ys
(tree l c o) +++ ys = tree l c (o +++ ys)

-- The terms, with a added to each binder number that refers to a binder outside of d binders (rustc: `shift_vars`).
abbrev pub shift : ℕ → ℕ → Trees → Trees
shift d a none = none
shift d a (tree l c o) = tree (shift_label d a l) (shift (inside l d) a c) (shift d a o)

-- The term at index i, alone. It is `!` if the list is too short.
abbrev pub nth : Trees → ℕ → Trees
nth none _ = tree never none none
nth (tree l c o) zero = tree l c none
nth (tree l c o) (suc i) = nth o i

-- The terms, with the arguments A for their parameters. An argument that is put below d binders is shifted by d (rustc:
-- `EarlyBinder::instantiate`). For example, `V<T>` with T = u8 is `V<u8>`.
abbrev pub instantiate : ℕ → Trees → Trees → Trees
instantiate d A none = none
instantiate d A (tree (param s i) c o) = shift zero d (nth A i) +++ instantiate d A o
instantiate d A (tree l c o) = tree l (instantiate (inside l d) A c) (instantiate d A o)

-- The label without lifetimes: each lifetime becomes `'static`, and no binder binds lifetimes.
abbrev pub erase_label : Label → Label
erase_label (fn_ptr _) = fn_ptr zero
erase_label (principal _ i) = principal zero i
erase_label (param of_lifetime _) = static
erase_label (placeholder of_lifetime _) = static
erase_label (infer of_lifetime _) = static
erase_label (canonical of_lifetime _) = static
erase_label (bound of_lifetime _ _) = static
erase_label l = l

-- The terms without lifetimes (rustc: `erase_regions`). Trait references, rules and answers are meant up to lifetimes.
-- For example, `for<'a> fn(&'a u8)` and `fn(&'static u8)` erase to the same term.
abbrev pub erase : Trees → Trees
erase none = none
erase (tree l c o) = tree (erase_label l) (erase c) (erase o)

-- The kind of a term with this label.
abbrev pub sort_of : Label → Sort
sort_of (value _) = of_const
sort_of static = of_lifetime
sort_of (param s _) = s
sort_of (placeholder s _) = s
sort_of (infer s _) = s
sort_of (canonical s _) = s
sort_of (bound s _ _) = s
sort_of _ = of_type

-- The list is exactly one term, and it is of this kind.
abbrev pub IsA : Sort → Trees → Type 0
IsA s none = ⊥
IsA of_lifetime (tree l c o) = (sort_of l ≡ of_lifetime) × (c ≡ none) × (o ≡ none)
IsA s (tree l c o) = (sort_of l ≡ s) × (o ≡ none)

-- The arguments A fit the parameters that the terms mention: each such parameter has one argument, of its kind. For
-- example, the constant `3` does not fit the T of `V<T>`.
abbrev pub Fits : Trees → Trees → Type 0
Fits A none = Unit {0}
Fits A (tree (param s i) c o) = IsA s (nth A i) × (c ≡ none) × Fits A o
Fits A (tree l c o) = Fits A c × Fits A o

-- The two kinds are equal.
abbrev pub is_sort : Sort → Sort → Bool
is_sort of_type of_type = true
is_sort of_const of_const = true
is_sort of_lifetime of_lifetime = true
is_sort _ _ = false

-- A term without children.
abbrev pub leaf : Label → Trees
leaf l = tree l none none

-- The label of some node passes the test.
abbrev pub some_node : (Label → Bool) → Trees → Bool
some_node p none = false
some_node p (tree l c o) = p l || some_node p c || some_node p o
