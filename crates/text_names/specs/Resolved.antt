-- A type whose names are looked up, as a list of cells. The parts of a cell come before it, and the cell says how many they are.
use Rattle.std.specs.Prelude.{ℕ, suc, ◌+◌, Bool, List, [], ◌∷◌, length, Option, Some, None, if◌then◌else◌}
use Rattle.std.specs.Str.{bytes_eq}
use Rattle.type_terms.specs.Promised.Label.{Label, Sort, of_type, of_const, never, array, slice, tuple, dynamic, fn_ptr, auto_trait, value, raw_pointer, principal}
use Rattle.text_language.specs.Promised.Syntax.{TypeTree, of_primitive, never_type, variable_type, named, reference_to, pointer_to, slice_of, array_of, tuple_of, fn_of, fn_to, dyn_of, Types, no_types, and_type, Args, no_args, and_arg, Arg, lifetime_arg, number_arg, type_arg, Item, bound_item, lifetime_item, DynBounds, no_items, and_item, Length, number_length, name_length, variable_length, Params}
use Rattle.text_language.specs.Promised.Declarations.{Declarations, known}
use Rattle.text_language.specs.Uses.{next_kind, other_kinds, kinds_of_struct, kinds_of_trait, types_count, args_count}
use Rattle.text_language.specs.Promised.Faults.{is_among, is_auto_name}
use Rattle.text_language.specs.Faults.{static_name}
use Rattle.text_language.specs.Lowering.{place_among, trait_number, struct_label, with_auto, autos}

-- A lifetime: a parameter by its index among the line's lifetimes, or one of a binder by how many binders further out it is and its index
-- there.
pub data Region : Type 0 where
  static_region : Region
  param_region : (place : ℕ) → Region
  bound_region : (binder place : ℕ) → Region

-- A parameter goes by its index among those of its kind, and a variable by its name. Its number depends on the whole line.
pub data ResolvedCell : Type 0 where
  node_cell : Label → (inside : ℕ) → ResolvedCell
  param_cell : Sort → (place inside : ℕ) → ResolvedCell
  variable_cell : Sort → List ℕ → ResolvedCell
  lifetime_cell : Region → ResolvedCell
  -- over one type
  reference_cell : Region → (is_mut : Bool) → ResolvedCell

-- ---- lifetimes
-- A lifetime under binders, of which the first is k further out.
abbrev pub region_under : Params → ℕ → List (List (List ℕ)) → List ℕ → Region
region_under ps k [] n = param_region (place_among n ps.lifetimes)
region_under ps k (b ∷ s) n = if is_among n b then bound_region k (place_among n b) else region_under ps (suc k) s n

abbrev pub region_of : Params → List (List (List ℕ)) → List ℕ → Region
region_of ps s n = if bytes_eq n static_name then static_region else region_under ps 0 s n

-- an omitted lifetime is `'static`
abbrev pub optional_region : Params → List (List (List ℕ)) → Option (List ℕ) → Region
optional_region ps s None = static_region
optional_region ps s (Some n) = region_of ps s n

-- ---- names
-- A name where a type is expected, with this many arguments.
abbrev pub named_cell : Declarations → Params → List ℕ → ℕ → ResolvedCell
named_cell d ps n k = if is_among n ps.types then param_cell of_type (place_among n ps.types) k else node_cell (struct_label (known d n)) k

-- A name where a constant is expected.
abbrev pub const_cell : Params → List ℕ → ResolvedCell
const_cell ps n = param_cell of_const (place_among n ps.consts) 0

abbrev pub length_cell : Params → Length → ResolvedCell
length_cell ps (number_length n) = node_cell (value n) 0
length_cell ps (name_length n) = const_cell ps n
length_cell ps (variable_length n) = variable_cell of_const n

-- ---- a `dyn`: its principal trait if it has one, the auto traits by rising number, its lifetime
abbrev pub autos_before : List ℕ → List ResolvedCell → List ResolvedCell
autos_before [] cs = cs
autos_before (n ∷ ns) cs = node_cell (auto_trait n) 0 ∷ autos_before ns cs

abbrev pub principals_count : Declarations → Item → ℕ → ℕ
principals_count d (bound_item b n args) k = if is_auto_name d n then k else suc k
principals_count d (lifetime_item n) k = k

abbrev pub principals : Declarations → DynBounds → ℕ
principals d no_items = 0
principals d (and_item i is) = principals_count d i (principals d is)

abbrev pub item_region : Params → List (List (List ℕ)) → Item → Region
item_region ps s (bound_item b n args) = static_region
item_region ps s (lifetime_item n) = region_of ps s n

abbrev pub last_region : Params → List (List (List ℕ)) → Item → DynBounds → Region
last_region ps s i no_items = item_region ps s i
last_region ps s i (and_item j is) = last_region ps s j is

-- The cells of a `dyn` after its principal trait, with its own.
abbrev pub dyn_before : Region → List ℕ → ℕ → List ResolvedCell → List ResolvedCell
dyn_before r ns k cs = autos_before ns (lifetime_cell r ∷ node_cell dynamic (k + (length ns + 1)) ∷ cs)

-- ---- the cells of a type, and then those after it; d is what the line knows, ps are its parameters, s the binders around
abbrev mutual
  -- in a position of kind p
  pub type_before : Declarations → Params → List (List (List ℕ)) → Sort → TypeTree → List ResolvedCell → List ResolvedCell
  type_before d ps s p (of_primitive l) cs = node_cell l 0 ∷ cs
  type_before d ps s p never_type cs = node_cell never 0 ∷ cs
  type_before d ps s p (variable_type n) cs = variable_cell p n ∷ cs
  type_before d ps s of_const (named n args) cs = const_cell ps n ∷ cs
  type_before d ps s p (named n args) cs = args_before d ps s (kinds_of_struct (known d n)) args (named_cell d ps n (args_count args) ∷ cs)
  type_before d ps s p (reference_to l m t) cs = type_before d ps s of_type t (reference_cell (optional_region ps s l) m ∷ cs)
  type_before d ps s p (pointer_to m t) cs = type_before d ps s of_type t (node_cell (raw_pointer m) 1 ∷ cs)
  type_before d ps s p (slice_of t) cs = type_before d ps s of_type t (node_cell slice 1 ∷ cs)
  type_before d ps s p (array_of t n) cs = type_before d ps s of_type t (length_cell ps n ∷ node_cell array 2 ∷ cs)
  type_before d ps s p (tuple_of ts) cs = types_before d ps s ts (node_cell tuple (types_count ts) ∷ cs)
  type_before d ps s p (fn_of b ts) cs = types_before d ps (b ∷ s) ts (node_cell tuple 0 ∷ node_cell (fn_ptr (length b)) (suc (types_count ts)) ∷ cs)
  type_before d ps s p (fn_to b ts r) cs = types_before d ps (b ∷ s) ts (type_before d ps (b ∷ s) of_type r (node_cell (fn_ptr (length b)) (suc (types_count ts)) ∷ cs))
  type_before d ps s p (dyn_of i is) cs =
      item_before d ps s i (items_before d ps s is (dyn_before (last_region ps s i is) (with_auto d i (autos d is)) (principals_count d i (principals d is)) cs))

  pub types_before : Declarations → Params → List (List (List ℕ)) → Types → List ResolvedCell → List ResolvedCell
  types_before d ps s no_types cs = cs
  types_before d ps s (and_type t ts) cs = type_before d ps s of_type t (types_before d ps s ts cs)

  -- arguments for parameters of these kinds
  pub args_before : Declarations → Params → List (List (List ℕ)) → List Sort → Args → List ResolvedCell → List ResolvedCell
  args_before d ps s ks no_args cs = cs
  args_before d ps s ks (and_arg a args) cs = arg_before d ps s (next_kind ks) a (args_before d ps s (other_kinds ks) args cs)

  pub arg_before : Declarations → Params → List (List (List ℕ)) → Sort → Arg → List ResolvedCell → List ResolvedCell
  arg_before d ps s p (lifetime_arg n) cs = lifetime_cell (region_of ps s n) ∷ cs
  arg_before d ps s p (number_arg n) cs = node_cell (value n) 0 ∷ cs
  arg_before d ps s p (type_arg t) cs = type_before d ps s p t cs

  -- the principal trait, if the item is it
  pub item_before : Declarations → Params → List (List (List ℕ)) → Item → List ResolvedCell → List ResolvedCell
  item_before d ps s (bound_item b n args) cs =
      if is_auto_name d n then cs else args_before d ps (b ∷ s) (kinds_of_trait (known d n)) args (node_cell (principal (length b) (trait_number (known d n))) (args_count args) ∷ cs)
  item_before d ps s (lifetime_item n) cs = cs

  pub items_before : Declarations → Params → List (List (List ℕ)) → DynBounds → List ResolvedCell → List ResolvedCell
  items_before d ps s no_items cs = cs
  items_before d ps s (and_item i is) cs = item_before d ps s i (items_before d ps s is cs)
