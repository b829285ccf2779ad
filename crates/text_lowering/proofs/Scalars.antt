-- Primitive types of written lines are scalars, or `str`.
use Rattle.std.proofs.Common.{◌≡◌, Bool, true, false}
use Rattle.type_terms.specs.Promised.Label.{Label, bool, char, str, int, uint}
use Rattle.text_language.specs.Promised.Syntax.{TypeTree, of_primitive, never_type, variable_type, named, reference_to, pointer_to, slice_of, array_of, tuple_of, fn_of, fn_to, dyn_of, Types, no_types, and_type, Args, no_args, and_arg, Arg, lifetime_arg, number_arg, type_arg, Item, bound_item, lifetime_item, DynBounds, no_items, and_item}

-- a scalar, or `str`
abbrev pub is_scalar : Label → Bool
is_scalar bool = true
is_scalar char = true
is_scalar str = true
is_scalar (int n) = true
is_scalar (uint n) = true
is_scalar l = false

-- each primitive type is one
abbrev mutual
  pub Scalars : TypeTree → Type 0
  Scalars (of_primitive p) = is_scalar p ≡ true
  Scalars never_type = Unit {0}
  Scalars (variable_type n) = Unit {0}
  Scalars (named n args) = ScalarArgs args
  Scalars (reference_to l m t) = Scalars t
  Scalars (pointer_to m t) = Scalars t
  Scalars (slice_of t) = Scalars t
  Scalars (array_of t n) = Scalars t
  Scalars (tuple_of ts) = ScalarTypes ts
  Scalars (fn_of b ts) = ScalarTypes ts
  Scalars (fn_to b ts r) = ScalarTypes ts × Scalars r
  Scalars (dyn_of i is) = ScalarItem i × ScalarItems is

  pub ScalarTypes : Types → Type 0
  ScalarTypes no_types = Unit {0}
  ScalarTypes (and_type t ts) = Scalars t × ScalarTypes ts

  pub ScalarArgs : Args → Type 0
  ScalarArgs no_args = Unit {0}
  ScalarArgs (and_arg a args) = ScalarArg a × ScalarArgs args

  pub ScalarArg : Arg → Type 0
  ScalarArg (lifetime_arg n) = Unit {0}
  ScalarArg (number_arg n) = Unit {0}
  ScalarArg (type_arg t) = Scalars t

  pub ScalarItem : Item → Type 0
  ScalarItem (bound_item b n args) = ScalarArgs args
  ScalarItem (lifetime_item n) = Unit {0}

  pub ScalarItems : DynBounds → Type 0
  ScalarItems no_items = Unit {0}
  ScalarItems (and_item i is) = ScalarItem i × ScalarItems is
