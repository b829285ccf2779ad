-- The long definition of what a line mentions, from left to right: names, lifetimes, variables and lists, each with
-- what a test for faults needs.
use Rattle.std.specs.Prelude.{ℕ, suc, max, Bool, true, false, List, [], ◌∷◌, ◌++◌, map, Option, Some, None}
use Rattle.std.specs.List.{flat_map}
use Rattle.type_terms.specs.Promised.Label.{Sort, of_type, of_const, of_lifetime}
use Rattle.text_language.specs.Promised.Syntax.{TypeTree, of_primitive, never_type, variable_type, named, reference_to, pointer_to, slice_of, array_of, tuple_of, fn_of, fn_to, dyn_of, Types, no_types, and_type, Args, no_args, and_arg, Arg, lifetime_arg, number_arg, type_arg, Item, bound_item, lifetime_item, DynBounds, no_items, and_item, Length, number_length, name_length, variable_length, Params, Bound, Clause, Line, crate_line, struct_line, trait_line, impl_line, prove_line, refute_line, later_line, supers_line}
use Rattle.text_language.specs.Promised.Declarations.{Declarations, Known, a_struct, a_trait, known}

-- The shape of a bound of a `dyn`.
pub data ItemShape : Type 0 where
  bound_shape : (has_binder : Bool) (trait : List ℕ) → ItemShape
  lifetime_shape : ItemShape

pub data Use : Type 0 where
  -- The name of a crate.
  crate_use : List ℕ → Use
  -- A name with its number of arguments, at the position of a type or a constant.
  name_use : (place : Sort) (name : List ℕ) (arguments : ℕ) → Use
  -- The name of a trait with its number of arguments.
  trait_use : (name : List ℕ) (arguments : ℕ) → Use
  -- A lifetime below these binders, the innermost first.
  lifetime_use : (scope : List (List (List ℕ))) → List ℕ → Use
  -- A binder below these.
  binder_use : (scope : List (List (List ℕ))) → List (List ℕ) → Use
  -- A variable, at the position of a type or a constant.
  variable_use : (place : Sort) → List ℕ → Use
  -- An argument that is not of the kind that its position needs, whatever its names mean.
  misfit_use : Use
  dyn_use : List ItemShape → Use
  -- The number of items of a tuple, or of inputs of a fn.
  items_use : ℕ → Use
  number_use : ℕ → Use

abbrev pub types_count : Types → ℕ
types_count no_types = 0
types_count (and_type t ts) = suc (types_count ts)

abbrev pub args_count : Args → ℕ
args_count no_args = 0
args_count (and_arg a args) = suc (args_count args)

-- ---- the kinds of an item's parameters
abbrev pub kinds_of_struct : Option Known → List Sort
kinds_of_struct (Some (a_struct k h kinds)) = kinds
kinds_of_struct _ = []

abbrev pub kinds_of_trait : Option Known → List Sort
kinds_of_trait (Some (a_trait k h a kinds)) = kinds
kinds_of_trait _ = []

-- The kind of the next argument. If there is no such parameter it is arbitrary, because the line then has a fault with
-- a smaller number, or the wrong number of arguments.
abbrev pub next_kind : List Sort → Sort
next_kind [] = of_type
next_kind (k ∷ ks) = k

abbrev pub other_kinds : List Sort → List Sort
other_kinds [] = []
other_kinds (k ∷ ks) = ks

-- The mention of a misfit, if there is one. A name without arguments and a variable may be a constant.
abbrev pub type_misfits : Sort → TypeTree → List Use
type_misfits of_type t = []
type_misfits of_const (named n args) = []
type_misfits of_const (variable_type n) = []
type_misfits _ _ = misfit_use ∷ []

abbrev pub length_uses : Length → List Use
length_uses (number_length n) = number_use n ∷ []
length_uses (name_length n) = name_use of_const n 0 ∷ []
length_uses (variable_length n) = variable_use of_const n ∷ []

abbrev pub lifetime_uses : List (List (List ℕ)) → Option (List ℕ) → List Use
lifetime_uses s None = []
lifetime_uses s (Some n) = lifetime_use s n ∷ []

abbrev pub lifetime_arg_uses : List (List (List ℕ)) → Sort → List ℕ → List Use
lifetime_arg_uses s of_lifetime n = lifetime_use s n ∷ []
lifetime_arg_uses s _ n = lifetime_use s n ∷ misfit_use ∷ []

abbrev pub number_arg_uses : Sort → ℕ → List Use
number_arg_uses of_const n = number_use n ∷ []
number_arg_uses _ n = number_use n ∷ misfit_use ∷ []

abbrev pub binder_uses : List (List (List ℕ)) → List (List ℕ) → List Use
binder_uses s [] = []
binder_uses s (n ∷ ns) = binder_use s (n ∷ ns) ∷ []

abbrev pub has_names : List (List ℕ) → Bool
has_names [] = false
has_names (n ∷ ns) = true

abbrev pub item_shape : Item → ItemShape
item_shape (bound_item b n args) = bound_shape (has_names b) n
item_shape (lifetime_item n) = lifetime_shape

abbrev pub item_shapes : DynBounds → List ItemShape
item_shapes no_items = []
item_shapes (and_item i is) = item_shape i ∷ item_shapes is

-- What a type mentions, below the binders s, at a position of kind p. Each `fn` and each bound of a `dyn` is a binder,
-- even without a lifetime.
abbrev mutual
  pub type_uses : Declarations → List (List (List ℕ)) → Sort → TypeTree → List Use
  type_uses d s p (of_primitive l) = []
  type_uses d s p never_type = []
  type_uses d s p (variable_type n) = variable_use p n ∷ []
  type_uses d s p (named n args) = name_use p n (args_count args) ∷ args_uses d s (kinds_of_struct (known d n)) args
  type_uses d s p (reference_to l m t) = lifetime_uses s l ++ type_uses d s of_type t
  type_uses d s p (pointer_to m t) = type_uses d s of_type t
  type_uses d s p (slice_of t) = type_uses d s of_type t
  type_uses d s p (array_of t n) = type_uses d s of_type t ++ length_uses n
  type_uses d s p (tuple_of ts) = items_use (types_count ts) ∷ types_uses d s ts
  type_uses d s p (fn_of b ts) = binder_uses s b ++ items_use (types_count ts) ∷ types_uses d (b ∷ s) ts
  type_uses d s p (fn_to b ts r) = binder_uses s b ++ items_use (types_count ts) ∷ (types_uses d (b ∷ s) ts ++ type_uses d (b ∷ s) of_type r)
  type_uses d s p (dyn_of i is) = dyn_use (item_shape i ∷ item_shapes is) ∷ (item_uses d s i ++ items_uses d s is)

  pub types_uses : Declarations → List (List (List ℕ)) → Types → List Use
  types_uses d s no_types = []
  types_uses d s (and_type t ts) = type_uses d s of_type t ++ types_uses d s ts

  -- What the arguments mention, for parameters of these kinds.
  pub args_uses : Declarations → List (List (List ℕ)) → List Sort → Args → List Use
  args_uses d s ks no_args = []
  args_uses d s ks (and_arg a args) = arg_uses d s (next_kind ks) a ++ args_uses d s (other_kinds ks) args

  pub arg_uses : Declarations → List (List (List ℕ)) → Sort → Arg → List Use
  arg_uses d s p (lifetime_arg n) = lifetime_arg_uses s p n
  arg_uses d s p (number_arg n) = number_arg_uses p n
  arg_uses d s p (type_arg t) = type_misfits p t ++ type_uses d s p t

  pub item_uses : Declarations → List (List (List ℕ)) → Item → List Use
  item_uses d s (bound_item b n args) = binder_uses s b ++ trait_use n (args_count args) ∷ args_uses d (b ∷ s) (kinds_of_trait (known d n)) args
  item_uses d s (lifetime_item n) = lifetime_use s n ∷ []

  pub items_uses : Declarations → List (List (List ℕ)) → DynBounds → List Use
  items_uses d s no_items = []
  items_uses d s (and_item i is) = item_uses d s i ++ items_uses d s is

abbrev pub bound_uses : Declarations → Bound → List Use
bound_uses d b = trait_use b.trait (args_count b.args) ∷ args_uses d [] (kinds_of_trait (known d b.trait)) b.args

-- What `type: bound` mentions, in a where-clause or in a query.
abbrev pub clause_uses : Declarations → Clause → List Use
clause_uses d k = type_uses d [] of_type k.subject ++ bound_uses d k.bound

-- What `bound for type` mentions.
abbrev pub header_uses : Declarations → Clause → List Use
header_uses d h = bound_uses d h.bound ++ type_uses d [] of_type h.subject

-- What a line mentions, without its parameters. Names are looked up in d.
abbrev pub uses : Declarations → Line → List Use
uses d (crate_line n us) = map crate_use us
uses d (struct_line f n ps fs) = types_uses d [] fs
uses d (trait_line f a n ps bs) = flat_map (bound_uses d) bs
uses d (impl_line ps h ks) = header_uses d h ++ flat_map (clause_uses d) ks
uses d (prove_line c ps a bs ks) = crate_use c ∷ (flat_map (clause_uses d) (a ∷ bs) ++ flat_map (clause_uses d) ks)
uses d (refute_line c ps a bs) = crate_use c ∷ flat_map (clause_uses d) (a ∷ bs)
uses d (later_line n) = crate_use n ∷ []
uses d (supers_line n) = crate_use n ∷ []

-- What the bounds of a query mention.
abbrev pub asked_uses : Declarations → Line → List Use
asked_uses d (prove_line c ps a bs ks) = flat_map (clause_uses d) (a ∷ bs)
asked_uses d (refute_line c ps a bs) = flat_map (clause_uses d) (a ∷ bs)
asked_uses d _ = []

-- What the rest of the line mentions.
abbrev pub other_uses : Declarations → Line → List Use
other_uses d (prove_line c ps a bs ks) = flat_map (clause_uses d) ks
other_uses d (refute_line c ps a bs) = []
other_uses d l = uses d l

abbrev pub params_of : Line → Params
params_of (crate_line n us) = record { lifetimes = []; types = []; consts = [] }
params_of (struct_line f n ps fs) = ps
params_of (trait_line f a n ps bs) = ps
params_of (impl_line ps h ks) = ps
params_of (prove_line c ps a bs ks) = ps
params_of (refute_line c ps a bs) = ps
params_of (later_line n) = record { lifetimes = []; types = []; consts = [] }
params_of (supers_line n) = record { lifetimes = []; types = []; consts = [] }

abbrev pub declared_name : Line → Option (List ℕ)
declared_name (crate_line n us) = Some n
declared_name (struct_line f n ps fs) = Some n
declared_name (trait_line f a n ps bs) = Some n
declared_name _ = None

-- ---- the depth of types: that of a leaf is 1. Lifetimes, constants and an omitted output do not count.
abbrev pub at_place : Sort → ℕ → ℕ
at_place of_type n = n
at_place _ n = 0

abbrev mutual
  pub type_depth : Declarations → TypeTree → ℕ
  type_depth d (of_primitive l) = 1
  type_depth d never_type = 1
  type_depth d (variable_type n) = 1
  type_depth d (named n args) = suc (args_depth d (kinds_of_struct (known d n)) args)
  type_depth d (reference_to l m t) = suc (type_depth d t)
  type_depth d (pointer_to m t) = suc (type_depth d t)
  type_depth d (slice_of t) = suc (type_depth d t)
  type_depth d (array_of t n) = suc (type_depth d t)
  type_depth d (tuple_of ts) = suc (types_depth d ts)
  type_depth d (fn_of b ts) = suc (types_depth d ts)
  type_depth d (fn_to b ts r) = suc (max (types_depth d ts) (type_depth d r))
  type_depth d (dyn_of i is) = suc (max (item_depth d i) (items_depth d is))

  pub types_depth : Declarations → Types → ℕ
  types_depth d no_types = 0
  types_depth d (and_type t ts) = max (type_depth d t) (types_depth d ts)

  pub args_depth : Declarations → List Sort → Args → ℕ
  args_depth d ks no_args = 0
  args_depth d ks (and_arg a args) = max (at_place (next_kind ks) (arg_depth d a)) (args_depth d (other_kinds ks) args)

  pub arg_depth : Declarations → Arg → ℕ
  arg_depth d (lifetime_arg n) = 0
  arg_depth d (number_arg n) = 0
  arg_depth d (type_arg t) = type_depth d t

  pub item_depth : Declarations → Item → ℕ
  item_depth d (bound_item b n args) = args_depth d (kinds_of_trait (known d n)) args
  item_depth d (lifetime_item n) = 0

  pub items_depth : Declarations → DynBounds → ℕ
  items_depth d no_items = 0
  items_depth d (and_item i is) = max (item_depth d i) (items_depth d is)

abbrev pub bound_depth : Declarations → Bound → ℕ
bound_depth d b = args_depth d (kinds_of_trait (known d b.trait)) b.args

abbrev pub clause_depth : Declarations → Clause → ℕ
clause_depth d k = max (type_depth d k.subject) (bound_depth d k.bound)

abbrev pub greatest_number : List ℕ → ℕ
greatest_number [] = 0
greatest_number (n ∷ ns) = max n (greatest_number ns)

-- The depth of the deepest type in a line.
abbrev pub line_depth : Declarations → Line → ℕ
line_depth d (crate_line n us) = 0
line_depth d (struct_line f n ps fs) = types_depth d fs
line_depth d (trait_line f a n ps bs) = greatest_number (map (bound_depth d) bs)
line_depth d (impl_line ps h ks) = max (clause_depth d h) (greatest_number (map (clause_depth d) ks))
line_depth d (prove_line c ps a bs ks) = max (greatest_number (map (clause_depth d) (a ∷ bs))) (greatest_number (map (clause_depth d) ks))
line_depth d (refute_line c ps a bs) = greatest_number (map (clause_depth d) (a ∷ bs))
line_depth d (later_line n) = 0
line_depth d (supers_line n) = 0
