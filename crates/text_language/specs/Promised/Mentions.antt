-- What a line mentions, from left to right: names, lifetimes, variables, lists and types, each with what a test for
-- faults needs.
use Rattle.std.specs.Prelude.{ℕ, suc, List, [], ◌∷◌, ◌++◌, map, length, drop, slice_index_or}
use Rattle.std.specs.List.{flat_map}
use Rattle.std.specs.Option.{option_to_list, option_map_or}
use Rattle.type_terms.specs.Promised.Label.{Sort, of_type, of_const, of_lifetime}
use Rattle.text_language.specs.Promised.Syntax.{TypeTree, variable_type, named, reference_to, pointer_to, slice_of, array_of, tuple_of, fn_of, fn_to, dyn_of, Types, no_types, and_type, Args, no_args, and_arg, Arg, lifetime_arg, number_arg, type_arg, Item, bound_item, lifetime_item, DynBounds, no_items, and_item, number_length, name_length, variable_length, Params, Bound, Clause, Line, crate_line, struct_line, trait_line, impl_line, prove_line, refute_line, later_line, supers_line}
use Rattle.text_language.specs.Promised.Declarations.{Declarations, a_struct, a_trait, known}

-- One thing that a line mentions.
pub data Mention : Type 0 where
  -- The name of a crate.
  crate_mention : List ℕ → Mention
  -- A name with its number of arguments, at the position of a type or a constant.
  name_mention : (place : Sort) (name : List ℕ) (arguments : ℕ) → Mention
  -- The name of a trait with its number of arguments.
  trait_mention : (name : List ℕ) (arguments : ℕ) → Mention
  -- A lifetime below these binders, the innermost first.
  lifetime_mention : (scope : List (List (List ℕ))) → List ℕ → Mention
  -- A binder below these. It may bind nothing.
  binder_mention : (scope : List (List (List ℕ))) → List (List ℕ) → Mention
  -- A variable, at the position of a type or a constant.
  variable_mention : (place : Sort) → List ℕ → Mention
  -- An argument that is not of the kind that its position needs, whatever its names mean.
  misfit_mention : Mention
  -- A `dyn` with its bounds.
  dyn_mention : List Item → Mention
  -- In this order: the number of items of a tuple, or of inputs of a fn; a number; and the depth of a type, which is 1
  -- if it is in no other.
  list_mention number_mention type_mention : ℕ → Mention

-- The kinds of the parameters of the struct with this name. There are none if it is not declared.
abbrev pub struct_kinds : Declarations → List ℕ → List Sort
struct_kinds d n = option_map_or (λ w. elim w [ a_struct i h kinds ↦ kinds | _ ↦ [] ]) (known d n) []

-- The kinds of the parameters of the trait with this name. There are none if it is not declared.
abbrev pub trait_kinds : Declarations → List ℕ → List Sort
trait_kinds d n = option_map_or (λ w. elim w [ a_trait i h a kinds ↦ kinds | _ ↦ [] ]) (known d n) []

-- The bounds of a `dyn` as a list.
abbrev pub item_list : DynBounds → List Item
item_list no_items = []
item_list (and_item i is) = i ∷ item_list is

-- What the parts mention, after the mention of what they are parts of, which depends on their number.
abbrev pub led_by : (ℕ → Mention) → List (List Mention) → List Mention
led_by head parts = head (length parts) ∷ flat_map (λ p. p) parts

-- What a type mentions at a position of kind p, below the binders s. The types in it have depth k. Each `fn` and each
-- bound of a `dyn` is a binder. Arguments in excess of the parameters have an arbitrary kind, because the line then has
-- a fault.
abbrev mutual
  pub type_mentions : Declarations → List (List (List ℕ)) → ℕ → Sort → TypeTree → List Mention
  type_mentions d s k p (variable_type n) = variable_mention p n ∷ []
  type_mentions d s k p (named n args) = led_by (name_mention p n) (args_mentions d s k (struct_kinds d n) args)
  type_mentions d s k p (reference_to l m t) = map (lifetime_mention s) (option_to_list l) ++ type_mention k ∷ type_mentions d s (suc k) of_type t
  type_mentions d s k p (pointer_to m t) = type_mention k ∷ type_mentions d s (suc k) of_type t
  type_mentions d s k p (slice_of t) = type_mention k ∷ type_mentions d s (suc k) of_type t
  type_mentions d s k p (array_of t (number_length n)) = type_mention k ∷ (type_mentions d s (suc k) of_type t ++ number_mention n ∷ [])
  type_mentions d s k p (array_of t (name_length n)) = type_mention k ∷ (type_mentions d s (suc k) of_type t ++ name_mention of_const n 0 ∷ [])
  type_mentions d s k p (array_of t (variable_length n)) = type_mention k ∷ (type_mentions d s (suc k) of_type t ++ variable_mention of_const n ∷ [])
  type_mentions d s k p (tuple_of ts) = led_by list_mention (types_mentions d s k ts)
  type_mentions d s k p (fn_of b ts) = binder_mention s b ∷ led_by list_mention (types_mentions d (b ∷ s) k ts)
  type_mentions d s k p (fn_to b ts r) =
      binder_mention s b ∷ (led_by list_mention (types_mentions d (b ∷ s) k ts) ++ type_mention k ∷ type_mentions d (b ∷ s) (suc k) of_type r)
  type_mentions d s k p (dyn_of i is) = dyn_mention (i ∷ item_list is) ∷ (item_mentions d s k i ++ items_mentions d s k is)
  type_mentions d s k p _ = []

  -- What each of the types mentions.
  pub types_mentions : Declarations → List (List (List ℕ)) → ℕ → Types → List (List Mention)
  types_mentions d s k no_types = []
  types_mentions d s k (and_type t ts) = (type_mention k ∷ type_mentions d s (suc k) of_type t) ∷ types_mentions d s k ts

  -- What each of the arguments mentions, for parameters of these kinds.
  pub args_mentions : Declarations → List (List (List ℕ)) → ℕ → List Sort → Args → List (List Mention)
  args_mentions d s k kinds no_args = []
  args_mentions d s k kinds (and_arg a args) = arg_mentions d s k (slice_index_or kinds 0 of_type) a ∷ args_mentions d s k (drop 1 kinds) args

  -- What an argument mentions. A name without arguments and a variable may be a constant.
  pub arg_mentions : Declarations → List (List (List ℕ)) → ℕ → Sort → Arg → List Mention
  arg_mentions d s k of_lifetime (lifetime_arg n) = lifetime_mention s n ∷ []
  arg_mentions d s k of_type (type_arg t) = type_mention k ∷ type_mentions d s (suc k) of_type t
  arg_mentions d s k of_const (number_arg n) = number_mention n ∷ []
  arg_mentions d s k of_const (type_arg (named n args)) = type_mentions d s (suc k) of_const (named n args)
  arg_mentions d s k of_const (type_arg (variable_type n)) = variable_mention of_const n ∷ []
  arg_mentions d s k p (lifetime_arg n) = lifetime_mention s n ∷ misfit_mention ∷ []
  arg_mentions d s k p (number_arg n) = number_mention n ∷ misfit_mention ∷ []
  arg_mentions d s k p (type_arg t) = misfit_mention ∷ type_mentions d s (suc k) p t

  -- What one bound of a `dyn` mentions.
  pub item_mentions : Declarations → List (List (List ℕ)) → ℕ → Item → List Mention
  item_mentions d s k (bound_item b n args) = binder_mention s b ∷ led_by (trait_mention n) (args_mentions d (b ∷ s) k (trait_kinds d n) args)
  item_mentions d s k (lifetime_item n) = lifetime_mention s n ∷ []

  -- What the bounds of a `dyn` mention, from left to right.
  pub items_mentions : Declarations → List (List (List ℕ)) → ℕ → DynBounds → List Mention
  items_mentions d s k no_items = []
  items_mentions d s k (and_item i is) = item_mentions d s k i ++ items_mentions d s k is

-- What a bound mentions: its trait, and what its arguments mention.
abbrev pub bound_mentions : Declarations → Bound → List Mention
bound_mentions d b = led_by (trait_mention b.trait) (args_mentions d [] 1 (trait_kinds d b.trait) b.args)

-- What `type: bound` mentions, in a where-clause or in a query.
abbrev pub clause_mentions : Declarations → Clause → List Mention
clause_mentions d k = type_mention 1 ∷ (type_mentions d [] 2 of_type k.subject ++ bound_mentions d k.bound)

-- What `bound for type` mentions.
abbrev pub header_mentions : Declarations → Clause → List Mention
header_mentions d h = bound_mentions d h.bound ++ type_mention 1 ∷ type_mentions d [] 2 of_type h.subject

-- What a line mentions, without its parameters. Names are looked up in d.
abbrev pub line_mentions : Declarations → Line → List Mention
line_mentions d (crate_line n us) = map crate_mention us
line_mentions d (struct_line f n ps fs) = flat_map (λ m. m) (types_mentions d [] 1 fs)
line_mentions d (trait_line f a n ps bs) = flat_map (bound_mentions d) bs
line_mentions d (impl_line ps h ks) = header_mentions d h ++ flat_map (clause_mentions d) ks
line_mentions d (prove_line c ps a bs ks) = crate_mention c ∷ (flat_map (clause_mentions d) (a ∷ bs) ++ flat_map (clause_mentions d) ks)
line_mentions d (refute_line c ps a bs) = crate_mention c ∷ flat_map (clause_mentions d) (a ∷ bs)
line_mentions d (later_line n) = crate_mention n ∷ []
line_mentions d (supers_line n) = crate_mention n ∷ []

-- What the bounds of a query mention. Other lines have none.
abbrev pub asked_mentions : Declarations → Line → List Mention
asked_mentions d (prove_line c ps a bs ks) = flat_map (clause_mentions d) (a ∷ bs)
asked_mentions d (refute_line c ps a bs) = flat_map (clause_mentions d) (a ∷ bs)
asked_mentions d _ = []

-- The parameters that the line declares.
abbrev pub line_params : Line → Params
line_params (struct_line f n ps fs) = ps
line_params (trait_line f a n ps bs) = ps
line_params (impl_line ps h ks) = ps
line_params (prove_line c ps a bs ks) = ps
line_params (refute_line c ps a bs) = ps
line_params _ = record { lifetimes = []; types = []; consts = [] }
