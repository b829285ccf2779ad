-- The cells of a type from the last to the first. A cell comes before its parts.
use Rattle.std.specs.Prelude.{ℕ, suc, ◌-◌, ◌==◌, not, List, [], ◌∷◌, length, drop, min, nat_le, nat_lt, if◌then◌else◌}
use Rattle.text_language.specs.Promised.Syntax.{TypeTree, of_primitive, never_type, variable_type, named, reference_to, pointer_to, slice_of, array_of, tuple_of, fn_of, fn_to, dyn_of, Types, no_types, and_type, Args, no_args, and_arg, Arg, lifetime_arg, number_arg, type_arg, Item, bound_item, lifetime_item, DynBounds, no_items, and_item}
use Rattle.text_language.specs.Uses.{ItemShape, bound_shape, lifetime_shape}
use Rattle.text_lines.specs.Cells.{Cell, primitive_cell, never_cell, slice_cell, variable_cell, lifetime_cell, binder_cell, number_cell, named_cell, reference_cell, pointer_cell, array_cell, tuple_cell, dyn_cell, fn_cell, fn_to_cell, bound_cell}

abbrev pub binder_back : List (List ℕ) → List Cell → List Cell
binder_back [] r = r
binder_back (n ∷ ns) r = binder_back ns (binder_cell n ∷ r)

-- `type_onto`, reversed. r are the cells before the type, the last of them first.
abbrev mutual
  pub type_back : TypeTree → List Cell → List Cell
  type_back (of_primitive p) r = primitive_cell p ∷ r
  type_back never_type r = never_cell ∷ r
  type_back (variable_type n) r = variable_cell n ∷ r
  type_back (named n args) r = named_cell n (length r) ∷ args_back args r
  type_back (reference_to l m t) r = reference_cell l m ∷ type_back t r
  type_back (pointer_to m t) r = pointer_cell m ∷ type_back t r
  type_back (slice_of t) r = slice_cell ∷ type_back t r
  type_back (array_of t n) r = array_cell n ∷ type_back t r
  type_back (tuple_of ts) r = tuple_cell (length r) ∷ types_back ts r
  type_back (fn_of b ts) r = fn_cell (length r) (length (binder_back b r)) ∷ types_back ts (binder_back b r)
  type_back (fn_to b ts o) r = fn_to_cell (length r) (length (binder_back b r)) ∷ type_back o (types_back ts (binder_back b r))
  type_back (dyn_of i is) r = dyn_cell (length r) ∷ items_back is (item_back i r)

  pub types_back : Types → List Cell → List Cell
  types_back no_types r = r
  types_back (and_type t ts) r = types_back ts (type_back t r)

  pub args_back : Args → List Cell → List Cell
  args_back no_args r = r
  args_back (and_arg a args) r = args_back args (arg_back a r)

  pub arg_back : Arg → List Cell → List Cell
  arg_back (lifetime_arg n) r = lifetime_cell n ∷ r
  arg_back (number_arg n) r = number_cell n ∷ r
  arg_back (type_arg t) r = type_back t r

  pub item_back : Item → List Cell → List Cell
  item_back (bound_item b n args) r = bound_cell n (length r) (length (binder_back b r)) ∷ args_back args (binder_back b r)
  item_back (lifetime_item n) r = lifetime_cell n ∷ r

  pub items_back : DynBounds → List Cell → List Cell
  items_back no_items r = r
  items_back (and_item i is) r = items_back is (item_back i r)

-- ---- where the first of these cells, with what is inside it, begins
abbrev pub begins : List Cell → ℕ
begins [] = 0
begins (named_cell n start ∷ r) = min start (length r)
begins (tuple_cell start ∷ r) = min start (length r)
begins (dyn_cell start ∷ r) = min start (length r)
begins (fn_cell start inner ∷ r) = min start (length r)
begins (fn_to_cell start inner ∷ r) = min start (length r)
begins (bound_cell n start inner ∷ r) = min start (length r)
begins (reference_cell l m ∷ r) = begins r
begins (pointer_cell m ∷ r) = begins r
begins (slice_cell ∷ r) = begins r
begins (array_cell n ∷ r) = begins r
begins (_ ∷ r) = length r

-- The cells of the parts between `start` and `end`, without what is inside these, and then those of `later`.
abbrev pub parts : (start end : ℕ) → List Cell → List Cell → List Cell
parts start end [] later = later
parts start end (c ∷ r) later =
    if nat_le end start then later
    else (if suc (length r) == end then parts start (begins (c ∷ r)) r (c ∷ later) else parts start end r later)

abbrev pub parts_above : ℕ → List Cell → List Cell
parts_above start r = parts start (length r) r []

abbrev pub count_above : ℕ → List Cell → ℕ
count_above start r = length (parts_above start r)

-- ---- binders: the names between `start` and `inner`, before `later`
abbrev pub names_before : (start inner : ℕ) → List Cell → List (List ℕ) → List (List ℕ)
names_before start inner [] later = later
names_before start inner (binder_cell n ∷ r) later = if nat_lt (length r) start then later else names_before start inner r (if nat_lt (length r) inner then n ∷ later else later)
names_before start inner (c ∷ r) later = if nat_lt (length r) start then later else names_before start inner r later

abbrev pub names_between : (start inner : ℕ) → List Cell → List (List ℕ)
names_between start inner r = names_before start inner r []

-- The cells before this index.
abbrev pub down_to : ℕ → List Cell → List Cell
down_to start r = drop (length r - start) r

-- An item of a `dyn`. It has a binder if its arguments do not begin where it begins.
abbrev pub shape_of : Cell → ItemShape
shape_of (bound_cell n start inner) = bound_shape (not (start == inner)) n
shape_of _ = lifetime_shape
