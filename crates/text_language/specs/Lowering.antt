-- The terms and trait references that a line means, with the declarations before it.
use Rattle.std.specs.Prelude.{ℕ, suc, ◌+◌, List, [], ◌∷◌, map, length, Option, Some, None, filter, nat_lt, ◌==◌, if◌then◌else◌}
use Rattle.std.specs.Str.{bytes_eq}
use Rattle.type_terms.specs.Promised.Label.{Label, Sort, of_type, of_const, of_lifetime, never, array, slice, tuple, dynamic, static, adt, fn_ptr, auto_trait, value, ref, raw_pointer, principal, infer, bound}
use Rattle.type_terms.specs.Promised.Trees.{Trees, none, tree, leaf, ◌+++◌, is_sort}
use Rattle.type_terms.specs.Promised.Worlds.{Reference}
use Rattle.text_language.specs.Promised.Syntax.{TypeTree, of_primitive, never_type, variable_type, named, reference_to, pointer_to, slice_of, array_of, tuple_of, fn_of, fn_to, dyn_of, Types, no_types, and_type, Args, no_args, and_arg, Arg, lifetime_arg, number_arg, type_arg, Item, bound_item, lifetime_item, DynBounds, no_items, and_item, Length, number_length, name_length, variable_length, Params, Bound, Clause}
use Rattle.text_language.specs.Promised.Declarations.{Declarations, Known, a_crate, a_struct, a_trait, known}
use Rattle.text_language.specs.Uses.{next_kind, other_kinds, kinds_of_struct, kinds_of_trait}
use Rattle.text_language.specs.Promised.Faults.{is_among, is_auto_name}
use Rattle.text_language.specs.Faults.{static_name}

-- What the names of a line mean: items, the line's parameters, and the variables in the order in which they first
-- occur. The first parameter has the number `first`. In a trait's own line it is 1, because 0 is Self.
pub record Meanings : Type 0 where
  pub items : Declarations
  pub params : Params
  pub first : ℕ
  pub parameter : Sort → ℕ → Label
  pub variables : List (List ℕ × Sort)

-- The index of a name in a list that has it.
abbrev pub place_among : List ℕ → List (List ℕ) → ℕ
place_among n [] = 0
place_among n (m ∷ ms) = if bytes_eq m n then 0 else suc (place_among n ms)

-- A line without a fault uses declared names of the right kind, so the other cases do not occur.
abbrev pub crate_number : Option Known → ℕ
crate_number (Some (a_crate k)) = k
crate_number _ = 0

abbrev pub trait_number : Option Known → ℕ
trait_number (Some (a_trait k h a kinds)) = k
trait_number _ = 0

abbrev pub struct_label : Option Known → Label
struct_label (Some (a_struct k h kinds)) = adt k
struct_label _ = never

-- ---- names
abbrev pub type_label : Meanings → List ℕ → Label
type_label e n =
    if is_among n e.params.types
    then e.parameter of_type (e.first + length e.params.lifetimes + place_among n e.params.types)
    else struct_label (known e.items n)

abbrev pub const_label : Meanings → List ℕ → Label
const_label e n = e.parameter of_const (e.first + length e.params.lifetimes + length e.params.types + place_among n e.params.consts)

-- The label of a variable, numbered among those of its kind.
abbrev pub variable_label : Meanings → Sort → List ℕ → Label
variable_label e p n = infer p (place_among n (map (λ v. v.0) (filter (λ v. is_sort v.1 p) e.variables)))

-- The label of a lifetime below these binders, the first of which has the number k.
abbrev pub lifetime_under : Meanings → ℕ → List (List (List ℕ)) → List ℕ → Label
lifetime_under e k [] n = e.parameter of_lifetime (e.first + place_among n e.params.lifetimes)
lifetime_under e k (b ∷ s) n = if is_among n b then bound of_lifetime k (place_among n b) else lifetime_under e (suc k) s n

abbrev pub lifetime_label : Meanings → List (List (List ℕ)) → List ℕ → Label
lifetime_label e s n = if bytes_eq n static_name then static else lifetime_under e 0 s n

-- The term of a lifetime. An omitted one is `'static`.
abbrev pub optional_lifetime : Meanings → List (List (List ℕ)) → Option (List ℕ) → Trees
optional_lifetime e s None = leaf static
optional_lifetime e s (Some n) = leaf (lifetime_label e s n)

abbrev pub length_label : Meanings → Length → Label
length_label e (number_length n) = value n
length_label e (name_length n) = const_label e n
length_label e (variable_length n) = variable_label e of_const n

-- ---- the auto traits of a `dyn`: by their numbers, each once
abbrev pub inserted : ℕ → List ℕ → List ℕ
inserted n [] = n ∷ []
inserted n (m ∷ ms) = if n == m then m ∷ ms else (if nat_lt n m then n ∷ m ∷ ms else m ∷ inserted n ms)

abbrev pub with_auto : Declarations → Item → List ℕ → List ℕ
with_auto d (bound_item b n args) ns = if is_auto_name d n then inserted (trait_number (known d n)) ns else ns
with_auto d (lifetime_item n) ns = ns

abbrev pub autos : Declarations → DynBounds → List ℕ
autos d no_items = []
autos d (and_item i is) = with_auto d i (autos d is)

abbrev pub auto_leaves : List ℕ → Trees
auto_leaves [] = none
auto_leaves (n ∷ ns) = tree (auto_trait n) none (auto_leaves ns)

-- The lifetime of a `dyn`, which is the last bound if it is written.
abbrev pub item_lifetime : Meanings → List (List (List ℕ)) → Item → Trees
item_lifetime e s (bound_item b n args) = leaf static
item_lifetime e s (lifetime_item n) = leaf (lifetime_label e s n)

abbrev pub last_lifetime : Meanings → List (List (List ℕ)) → Item → DynBounds → Trees
last_lifetime e s i no_items = item_lifetime e s i
last_lifetime e s i (and_item j is) = last_lifetime e s j is

-- ---- types, below the binders s, the innermost first
abbrev mutual
  -- The term of a type at a position of kind p.
  pub type_tree : Meanings → List (List (List ℕ)) → Sort → TypeTree → Trees
  type_tree e s p (of_primitive l) = leaf l
  type_tree e s p never_type = leaf never
  type_tree e s p (variable_type n) = leaf (variable_label e p n)
  type_tree e s of_const (named n args) = leaf (const_label e n)
  type_tree e s p (named n args) = tree (type_label e n) (args_trees e s (kinds_of_struct (known e.items n)) args) none
  type_tree e s p (reference_to l m t) = tree (ref m) (optional_lifetime e s l +++ type_tree e s of_type t) none
  type_tree e s p (pointer_to m t) = tree (raw_pointer m) (type_tree e s of_type t) none
  type_tree e s p (slice_of t) = tree slice (type_tree e s of_type t) none
  type_tree e s p (array_of t n) = tree array (type_tree e s of_type t +++ leaf (length_label e n)) none
  type_tree e s p (tuple_of ts) = tree tuple (types_trees e s ts) none
  type_tree e s p (fn_of b ts) = tree (fn_ptr (length b)) (types_trees e (b ∷ s) ts +++ leaf tuple) none
  type_tree e s p (fn_to b ts r) = tree (fn_ptr (length b)) (types_trees e (b ∷ s) ts +++ type_tree e (b ∷ s) of_type r) none
  type_tree e s p (dyn_of i is) =
      tree dynamic (item_tree e s i +++ items_trees e s is +++ auto_leaves (with_auto e.items i (autos e.items is)) +++ last_lifetime e s i is) none

  pub types_trees : Meanings → List (List (List ℕ)) → Types → Trees
  types_trees e s no_types = none
  types_trees e s (and_type t ts) = type_tree e s of_type t +++ types_trees e s ts

  -- The terms of the arguments, for parameters of these kinds.
  pub args_trees : Meanings → List (List (List ℕ)) → List Sort → Args → Trees
  args_trees e s ks no_args = none
  args_trees e s ks (and_arg a args) = arg_tree e s (next_kind ks) a +++ args_trees e s (other_kinds ks) args

  pub arg_tree : Meanings → List (List (List ℕ)) → Sort → Arg → Trees
  arg_tree e s p (lifetime_arg n) = leaf (lifetime_label e s n)
  arg_tree e s p (number_arg n) = leaf (value n)
  arg_tree e s p (type_arg t) = type_tree e s p t

  -- The principal, if the bound is one.
  pub item_tree : Meanings → List (List (List ℕ)) → Item → Trees
  item_tree e s (bound_item b n args) =
      if is_auto_name e.items n then none else tree (principal (length b) (trait_number (known e.items n))) (args_trees e (b ∷ s) (kinds_of_trait (known e.items n)) args) none
  item_tree e s (lifetime_item n) = none

  pub items_trees : Meanings → List (List (List ℕ)) → DynBounds → Trees
  items_trees e s no_items = none
  items_trees e s (and_item i is) = item_tree e s i +++ items_trees e s is

abbrev pub field_trees : Meanings → Types → List Trees
field_trees e no_types = []
field_trees e (and_type t ts) = type_tree e [] of_type t ∷ field_trees e ts

-- ---- trait references
abbrev pub bound_with_self : Meanings → Trees → Bound → Reference
bound_with_self e self b = record { trait = trait_number (known e.items b.trait); args = self +++ args_trees e [] (kinds_of_trait (known e.items b.trait)) b.args }

abbrev pub clause_reference : Meanings → Clause → Reference
clause_reference e k = bound_with_self e (type_tree e [] of_type k.subject) k.bound
