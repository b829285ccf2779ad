-- The primitive types among the cells of a line are such.
use Rattle.std.proofs.Common.{ℕ, List, [], ◌∷◌, ◌++◌, length}
use Rattle.type_terms.specs.Promised.Label.{Label, bool, char, str, int, uint}
use Rattle.text_language.specs.Promised.Syntax.{TypeTree, of_primitive, never_type, variable_type, named, reference_to, pointer_to, slice_of, array_of, tuple_of, fn_of, fn_to, dyn_of, Types, no_types, and_type, Args, no_args, and_arg, Arg, lifetime_arg, number_arg, type_arg, Item, bound_item, lifetime_item, DynBounds, no_items, and_item}
use Rattle.text_lines.specs.Cells.{Cell, primitive_cell, never_cell, slice_cell, variable_cell, lifetime_cell, number_cell, named_cell, reference_cell, pointer_cell, array_cell, tuple_cell, dyn_cell, fn_cell, fn_to_cell, bound_cell, binder_onto, binder_cell, type_onto, types_onto, args_onto, arg_onto, item_onto, items_onto}

abbrev pub IsPrimitive : Label → Type 0
IsPrimitive bool = Unit {0}
IsPrimitive char = Unit {0}
IsPrimitive str = Unit {0}
IsPrimitive (int w) = Unit {0}
IsPrimitive (uint w) = Unit {0}
IsPrimitive _ = ⊥

abbrev pub PlainCell : Cell → Type 0
PlainCell (primitive_cell l) = IsPrimitive l
PlainCell _ = Unit {0}

abbrev pub PlainCells : List Cell → Type 0
PlainCells [] = Unit {0}
PlainCells (c ∷ cs) = PlainCell c × PlainCells cs

abbrev mutual
  pub PlainType : TypeTree → Type 0
  PlainType (of_primitive l) = IsPrimitive l
  PlainType never_type = Unit {0}
  PlainType (variable_type n) = Unit {0}
  PlainType (named n args) = PlainArgs args
  PlainType (reference_to l m t) = PlainType t
  PlainType (pointer_to m t) = PlainType t
  PlainType (slice_of t) = PlainType t
  PlainType (array_of t n) = PlainType t
  PlainType (tuple_of ts) = PlainTypes ts
  PlainType (fn_of b ts) = PlainTypes ts
  PlainType (fn_to b ts r) = PlainTypes ts × PlainType r
  PlainType (dyn_of i is) = PlainItem i

  pub PlainTypes : Types → Type 0
  PlainTypes no_types = Unit {0}
  PlainTypes (and_type t ts) = PlainType t × PlainTypes ts

  pub PlainArgs : Args → Type 0
  PlainArgs no_args = Unit {0}
  PlainArgs (and_arg a args) = PlainArg a × PlainArgs args

  pub PlainArg : Arg → Type 0
  PlainArg (lifetime_arg n) = Unit {0}
  PlainArg (number_arg n) = Unit {0}
  PlainArg (type_arg t) = PlainType t

  pub PlainItem : Item → Type 0
  PlainItem (bound_item b n args) = PlainArgs args
  PlainItem (lifetime_item n) = Unit {0}

front : (o : List Cell) (c : Cell) → PlainCells (o ++ c ∷ []) → PlainCells o
front [] c h = tt
front (x ∷ o) c h = (h.0, front o c h.1)

last : (o : List Cell) (c : Cell) → PlainCells (o ++ c ∷ []) → PlainCell c
last [] c h = h.0
last (x ∷ o) c h = last o c h.1

binder-front : (b : List (List ℕ)) (o : List Cell) → PlainCells (binder_onto b o) → PlainCells o
binder-front [] o h = h
binder-front (n ∷ ns) o h = front o (binder_cell n) (binder-front ns (o ++ binder_cell n ∷ []) h)

mutual
  pub type-plain : (t : TypeTree) (o : List Cell) → PlainCells (type_onto t o) → PlainType t × PlainCells o
  type-plain (of_primitive l) o h = (last o (primitive_cell l) h, front o (primitive_cell l) h)
  type-plain never_type o h = (tt, front o never_cell h)
  type-plain (variable_type n) o h = (tt, front o (variable_cell n) h)
  type-plain (named n args) o h = args-plain args o (front (args_onto args o) (named_cell n (length o)) h)
  type-plain (reference_to l m t) o h = type-plain t o (front (type_onto t o) (reference_cell l m) h)
  type-plain (pointer_to m t) o h = type-plain t o (front (type_onto t o) (pointer_cell m) h)
  type-plain (slice_of t) o h = type-plain t o (front (type_onto t o) slice_cell h)
  type-plain (array_of t n) o h = type-plain t o (front (type_onto t o) (array_cell n) h)
  type-plain (tuple_of ts) o h = types-plain ts o (front (types_onto ts o) (tuple_cell (length o)) h)
  type-plain (fn_of b ts) o h =
      let k = types-plain ts (binder_onto b o) (front (types_onto ts (binder_onto b o)) (fn_cell (length o) (length (binder_onto b o))) h) in
      (k.0, binder-front b o k.1)
  type-plain (fn_to b ts r) o h =
      let k = type-plain r (types_onto ts (binder_onto b o)) (front (type_onto r (types_onto ts (binder_onto b o))) (fn_to_cell (length o) (length (binder_onto b o))) h) in
      let j = types-plain ts (binder_onto b o) k.1 in
      ((j.0, k.0), binder-front b o j.1)
  type-plain (dyn_of i is) o h =
      let k = item-plain i o (items-front is (item_onto i o) (front (items_onto is (item_onto i o)) (dyn_cell (length o)) h)) in
      k

  types-plain : (ts : Types) (o : List Cell) → PlainCells (types_onto ts o) → PlainTypes ts × PlainCells o
  types-plain no_types o h = (tt, h)
  types-plain (and_type t ts) o h = let k = types-plain ts (type_onto t o) h in let j = type-plain t o k.1 in ((j.0, k.0), j.1)

  pub args-plain : (args : Args) (o : List Cell) → PlainCells (args_onto args o) → PlainArgs args × PlainCells o
  args-plain no_args o h = (tt, h)
  args-plain (and_arg a args) o h = let k = args-plain args (arg_onto a o) h in let j = arg-plain a o k.1 in ((j.0, k.0), j.1)

  arg-plain : (a : Arg) (o : List Cell) → PlainCells (arg_onto a o) → PlainArg a × PlainCells o
  arg-plain (lifetime_arg n) o h = (tt, front o (lifetime_cell n) h)
  arg-plain (number_arg n) o h = (tt, front o (number_cell n) h)
  arg-plain (type_arg t) o h = type-plain t o h

  item-plain : (i : Item) (o : List Cell) → PlainCells (item_onto i o) → PlainItem i × PlainCells o
  item-plain (bound_item b n args) o h =
      let k = args-plain args (binder_onto b o) (front (args_onto args (binder_onto b o)) (bound_cell n (length o) (length (binder_onto b o))) h) in
      (k.0, binder-front b o k.1)
  item-plain (lifetime_item n) o h = (tt, front o (lifetime_cell n) h)

  items-front : (is : DynBounds) (o : List Cell) → PlainCells (items_onto is o) → PlainCells o
  items-front no_items o h = h
  items-front (and_item i is) o h = (item-plain i o (items-front is (item_onto i o) h)).1
