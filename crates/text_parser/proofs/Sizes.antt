-- How many cells a type has.
use Rattle.std.proofs.Common.{◌≡◌, ℕ, suc, ◌+◌, ◌≤◌, List, [], ◌∷◌, ◌++◌, length, ◌∙◌, arith, length-append}
use Rattle.text_language.specs.Promised.Syntax.{TypeTree, of_primitive, never_type, variable_type, named, reference_to, pointer_to, slice_of, array_of, tuple_of, fn_of, fn_to, dyn_of, Types, no_types, and_type, Args, no_args, and_arg, Arg, lifetime_arg, number_arg, type_arg, Item, bound_item, lifetime_item, DynBounds, no_items, and_item}
use Rattle.text_language.specs.Uses.{types_count, args_count}
use Rattle.text_lines.specs.Cells.{Cell, primitive_cell, never_cell, slice_cell, variable_cell, lifetime_cell, number_cell, named_cell, reference_cell, pointer_cell, array_cell, tuple_cell, dyn_cell, fn_cell, fn_to_cell, bound_cell, binder_onto, binder_cell, type_onto, types_onto, args_onto, arg_onto, item_onto, items_onto}

abbrev mutual
  pub type_size : TypeTree → ℕ
  type_size (of_primitive p) = 1
  type_size never_type = 1
  type_size (variable_type n) = 1
  type_size (named n args) = suc (args_size args)
  type_size (reference_to l m t) = suc (type_size t)
  type_size (pointer_to m t) = suc (type_size t)
  type_size (slice_of t) = suc (type_size t)
  type_size (array_of t n) = suc (type_size t)
  type_size (tuple_of ts) = suc (types_size ts)
  type_size (fn_of b ts) = suc (length b + types_size ts)
  type_size (fn_to b ts r) = suc (length b + (types_size ts + type_size r))
  type_size (dyn_of i is) = suc (item_size i + items_size is)

  pub types_size : Types → ℕ
  types_size no_types = 0
  types_size (and_type t ts) = type_size t + types_size ts

  pub args_size : Args → ℕ
  args_size no_args = 0
  args_size (and_arg a args) = arg_size a + args_size args

  pub arg_size : Arg → ℕ
  arg_size (lifetime_arg n) = 1
  arg_size (number_arg n) = 1
  arg_size (type_arg t) = type_size t

  pub item_size : Item → ℕ
  item_size (bound_item b n args) = suc (length b + args_size args)
  item_size (lifetime_item n) = 1

  pub items_size : DynBounds → ℕ
  items_size no_items = 0
  items_size (and_item i is) = item_size i + items_size is

-- ---- as many as the cells
one-more : (c : Cell) (o : List Cell) → length (o ++ c ∷ []) ≡ suc (length o)
one-more c o = let e : length o + 1 ≡ suc (length o) = omega arith in length-append o (c ∷ []) ∙ e

binder-length : (b : List (List ℕ)) (o : List Cell) → length (binder_onto b o) ≡ length o + length b
binder-length [] o = omega arith
binder-length (n ∷ ns) o = let h = binder-length ns (o ++ binder_cell n ∷ []) in omega (arith, h, one-more (binder_cell n) o)

mutual
  pub type-length : (t : TypeTree) (o : List Cell) → length (type_onto t o) ≡ length o + type_size t
  type-length (of_primitive p) o = omega (arith, one-more (primitive_cell p) o)
  type-length never_type o = omega (arith, one-more never_cell o)
  type-length (variable_type n) o = omega (arith, one-more (variable_cell n) o)
  type-length (named n args) o = omega (arith, one-more (named_cell n (length o)) (args_onto args o), args-length args o)
  type-length (reference_to l m t) o = omega (arith, one-more (reference_cell l m) (type_onto t o), type-length t o)
  type-length (pointer_to m t) o = omega (arith, one-more (pointer_cell m) (type_onto t o), type-length t o)
  type-length (slice_of t) o = omega (arith, one-more slice_cell (type_onto t o), type-length t o)
  type-length (array_of t n) o = omega (arith, one-more (array_cell n) (type_onto t o), type-length t o)
  type-length (tuple_of ts) o = omega (arith, one-more (tuple_cell (length o)) (types_onto ts o), types-length ts o)
  type-length (fn_of b ts) o = omega (arith, one-more (fn_cell (length o) (length (binder_onto b o))) (types_onto ts (binder_onto b o)), types-length ts (binder_onto b o), binder-length b o)
  type-length (fn_to b ts r) o =
      omega (arith, one-more (fn_to_cell (length o) (length (binder_onto b o))) (type_onto r (types_onto ts (binder_onto b o))), type-length r (types_onto ts (binder_onto b o)), types-length ts (binder_onto b o), binder-length b o)
  type-length (dyn_of i is) o = omega (arith, one-more (dyn_cell (length o)) (items_onto is (item_onto i o)), items-length is (item_onto i o), item-length i o)

  types-length : (ts : Types) (o : List Cell) → length (types_onto ts o) ≡ length o + types_size ts
  types-length no_types o = omega arith
  types-length (and_type t ts) o = omega (arith, types-length ts (type_onto t o), type-length t o)

  pub args-length : (args : Args) (o : List Cell) → length (args_onto args o) ≡ length o + args_size args
  args-length no_args o = omega arith
  args-length (and_arg a args) o = omega (arith, args-length args (arg_onto a o), arg-length a o)

  arg-length : (a : Arg) (o : List Cell) → length (arg_onto a o) ≡ length o + arg_size a
  arg-length (lifetime_arg n) o = omega (arith, one-more (lifetime_cell n) o)
  arg-length (number_arg n) o = omega (arith, one-more (number_cell n) o)
  arg-length (type_arg t) o = type-length t o

  item-length : (i : Item) (o : List Cell) → length (item_onto i o) ≡ length o + item_size i
  item-length (bound_item b n args) o = omega (arith, one-more (bound_cell n (length o) (length (binder_onto b o))) (args_onto args (binder_onto b o)), args-length args (binder_onto b o), binder-length b o)
  item-length (lifetime_item n) o = omega (arith, one-more (lifetime_cell n) o)

  items-length : (is : DynBounds) (o : List Cell) → length (items_onto is o) ≡ length o + items_size is
  items-length no_items o = omega arith
  items-length (and_item i is) o = omega (arith, items-length is (item_onto i o), item-length i o)

-- ---- counts
pub type-positive : (t : TypeTree) → 1 ≤ type_size t
type-positive (of_primitive p) = omega arith
type-positive never_type = omega arith
type-positive (variable_type n) = omega arith
type-positive (named n args) = omega arith
type-positive (reference_to l m t) = omega arith
type-positive (pointer_to m t) = omega arith
type-positive (slice_of t) = omega arith
type-positive (array_of t n) = omega arith
type-positive (tuple_of ts) = omega arith
type-positive (fn_of b ts) = omega arith
type-positive (fn_to b ts r) = omega arith
type-positive (dyn_of i is) = omega arith

arg-positive : (a : Arg) → 1 ≤ arg_size a
arg-positive (lifetime_arg n) = omega arith
arg-positive (number_arg n) = omega arith
arg-positive (type_arg t) = type-positive t

pub types-counted : (ts : Types) → types_count ts ≤ types_size ts
types-counted no_types = omega arith
types-counted (and_type t ts) = omega (arith, type-positive t, types-counted ts)

pub args-counted : (args : Args) → args_count args ≤ args_size args
args-counted no_args = omega arith
args-counted (and_arg a args) = omega (arith, arg-positive a, args-counted args)
