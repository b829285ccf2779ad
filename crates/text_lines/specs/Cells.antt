-- A type as a list of cells: the inner parts of a cell precede it, and the cell has the index at which they begin.
use Rattle.std.specs.Prelude.{ℕ, Bool, List, [], ◌∷◌, ◌++◌, length, Option}
use Rattle.type_terms.specs.Promised.Label.{Label}
use Rattle.text_language.specs.Promised.Syntax.{TypeTree, of_primitive, never_type, variable_type, named, reference_to, pointer_to, slice_of, array_of, tuple_of, fn_of, fn_to, dyn_of, Types, no_types, and_type, Args, no_args, and_arg, Arg, lifetime_arg, number_arg, type_arg, Item, bound_item, lifetime_item, DynBounds, no_items, and_item, Length}

-- `start` is the index of the first cell inside. If there is a binder, its names come first, up to `inner`. The output of a `fn` is the last cell inside.
pub data Cell : Type 0 where
  primitive_cell : Label → Cell
  never_cell slice_cell : Cell
  variable_cell lifetime_cell binder_cell : List ℕ → Cell
  number_cell : ℕ → Cell
  named_cell : List ℕ → (start : ℕ) → Cell
  reference_cell : Option (List ℕ) → Bool → Cell
  pointer_cell : Bool → Cell
  array_cell : Length → Cell
  tuple_cell dyn_cell : (start : ℕ) → Cell
  fn_cell fn_to_cell : (start inner : ℕ) → Cell
  bound_cell : List ℕ → (start inner : ℕ) → Cell

-- the names of a binder, appended to the given cells
abbrev pub binder_onto : List (List ℕ) → List Cell → List Cell
binder_onto [] out = out
binder_onto (n ∷ ns) out = binder_onto ns (out ++ binder_cell n ∷ [])

-- the cells of a type, appended to the given cells
abbrev mutual
  pub type_onto : TypeTree → List Cell → List Cell
  type_onto (of_primitive p) out = out ++ primitive_cell p ∷ []
  type_onto never_type out = out ++ never_cell ∷ []
  type_onto (variable_type n) out = out ++ variable_cell n ∷ []
  type_onto (named n args) out = args_onto args out ++ named_cell n (length out) ∷ []
  type_onto (reference_to l m t) out = type_onto t out ++ reference_cell l m ∷ []
  type_onto (pointer_to m t) out = type_onto t out ++ pointer_cell m ∷ []
  type_onto (slice_of t) out = type_onto t out ++ slice_cell ∷ []
  type_onto (array_of t n) out = type_onto t out ++ array_cell n ∷ []
  type_onto (tuple_of ts) out = types_onto ts out ++ tuple_cell (length out) ∷ []
  type_onto (fn_of b ts) out = types_onto ts (binder_onto b out) ++ fn_cell (length out) (length (binder_onto b out)) ∷ []
  type_onto (fn_to b ts r) out = type_onto r (types_onto ts (binder_onto b out)) ++ fn_to_cell (length out) (length (binder_onto b out)) ∷ []
  type_onto (dyn_of i is) out = items_onto is (item_onto i out) ++ dyn_cell (length out) ∷ []

  pub types_onto : Types → List Cell → List Cell
  types_onto no_types out = out
  types_onto (and_type t ts) out = types_onto ts (type_onto t out)

  pub args_onto : Args → List Cell → List Cell
  args_onto no_args out = out
  args_onto (and_arg a args) out = args_onto args (arg_onto a out)

  pub arg_onto : Arg → List Cell → List Cell
  arg_onto (lifetime_arg n) out = out ++ lifetime_cell n ∷ []
  arg_onto (number_arg n) out = out ++ number_cell n ∷ []
  arg_onto (type_arg t) out = type_onto t out

  pub item_onto : Item → List Cell → List Cell
  item_onto (bound_item b n args) out = args_onto args (binder_onto b out) ++ bound_cell n (length out) (length (binder_onto b out)) ∷ []
  item_onto (lifetime_item n) out = out ++ lifetime_cell n ∷ []

  pub items_onto : DynBounds → List Cell → List Cell
  items_onto no_items out = out
  items_onto (and_item i is) out = items_onto is (item_onto i out)
