-- Tests whether a view's declarations are well-formed, and the kinds of `core`.
use Rattle.std.specs.Prelude.{◌≡◌, ◌==◌, ℕ, zero, suc, Bool, true, false, ◌&&◌, ◌||◌, not, List, [], ◌∷◌, if◌then◌else◌}
use Rattle.std.specs.List.{list_all}
use Rattle.type_terms.specs.Promised.Label.{Label, Sort, of_type, adt, tuple, fn_ptr, raw_pointer, ref, array, slice, dynamic, principal, auto_trait, of_trait, predicate, param}
use Rattle.type_terms.specs.Promised.Trees.{Trees, none, tree, is_sort}
use Rattle.type_terms.specs.Promised.Worlds.{World, Reference, StructDecl, TraitDecl, ImplDecl}
use Rattle.type_terms.specs.Promised.Rules.{sized, clone, copy, tuple_trait, fn_ptr_trait, unsize}
use Rattle.type_terms.specs.Promised.Core.{core_world}
use Rattle.type_terms.specs.Promised.Walks.{struct_is, trait_is}
use Rattle.declarations.specs.Applied.{sorts_of}
use Rattle.candidate_model.specs.Asking.{next_of}
use Rattle.solver_completeness.specs.RowWays.{autos_stand_once}
use Rattle.solver_completeness.specs.GoalSets.{begins_typed}
use Rattle.solver_completeness.specs.FormedFacts.{Sorts, IsFormedView}

abbrev pub same_sorts : List Sort → List Sort → Bool
same_sorts [] [] = true
same_sorts (s ∷ ss) (t ∷ ts) = is_sort s t && same_sorts ss ts
same_sorts [] (t ∷ ts) = false
same_sorts (s ∷ ss) [] = false

abbrev pub are_types : List Sort → Bool
are_types ss = list_all (λ s. is_sort s of_type) ss

-- parameter i is one of these, of this kind
abbrev pub is_param_of : List Sort → ℕ → Sort → Bool
is_param_of [] i s = false
is_param_of (t ∷ ts) zero s = is_sort t s
is_param_of (t ∷ ts) (suc i) s = is_param_of ts i s

abbrev pub speaks_of : List Sort → Trees → Bool
speaks_of ss none = true
speaks_of ss (tree (param s i) c o) = is_param_of ss i s && (speaks_of ss c && speaks_of ss o)
speaks_of ss (tree l c o) = speaks_of ss c && speaks_of ss o

-- Self comes first, and is a type
abbrev pub takes_self : List Sort → Bool
takes_self [] = false
takes_self (s ∷ ss) = is_sort s of_type

module _ (V : World) (sorts : Sorts) where
  abbrev pub is_trait_of : ℕ → List Sort → Bool
  is_trait_of t ss = trait_is (λ x. true) V t && same_sorts ss (sorts.of_trait t)

  abbrev pub fits_node : Label → Trees → Bool
  fits_node (adt s) c = struct_is (λ x. true) V s && same_sorts (sorts_of c) (sorts.of_struct s)
  fits_node (principal n t) c = is_trait_of t (of_type ∷ sorts_of c)
  fits_node (auto_trait t) c = is_trait_of t (of_type ∷ [])
  fits_node (predicate (of_trait t)) c = is_trait_of t (sorts_of c)
  fits_node tuple c = are_types (sorts_of c)
  fits_node (fn_ptr n) c = are_types (sorts_of c)
  fits_node (raw_pointer b) c = begins_typed c
  fits_node array c = begins_typed c
  fits_node slice c = begins_typed c
  fits_node (ref b) c = begins_typed (next_of c)
  fits_node dynamic c = autos_stand_once (tree dynamic c none)
  fits_node l c = true

  abbrev pub nodes_fit : Trees → Bool
  nodes_fit none = true
  nodes_fit (tree l c o) = fits_node l c && (nodes_fit c && nodes_fit o)

  abbrev pub is_field : List Sort → Trees → Bool
  is_field ss t = nodes_fit t && (same_sorts (sorts_of t) (of_type ∷ []) && speaks_of ss t)

  abbrev pub is_bound : List Sort → Reference → Bool
  is_bound ss r = nodes_fit r.args && (is_trait_of r.trait (sorts_of r.args) && speaks_of ss r.args)

  abbrev pub is_clause : Reference → Bool
  is_clause r = nodes_fit r.args && is_trait_of r.trait (sorts_of r.args)

  abbrev pub is_trait : TraitDecl → Bool
  is_trait x = takes_self (sorts.of_trait x.name) && (not x.is_auto || same_sorts (sorts.of_trait x.name) (of_type ∷ []))

  -- the parameters of the traits of core
  abbrev pub core_is_formed : Bool
  core_is_formed =
      same_sorts (sorts.of_trait copy) (of_type ∷ [])
      && (same_sorts (sorts.of_trait clone) (of_type ∷ []) && (is_trait_of sized (of_type ∷ []) && same_sorts (sorts.of_trait unsize) (of_type ∷ of_type ∷ [])))

  abbrev pub is_formed_view : Bool
  is_formed_view =
      list_all (λ (x : StructDecl). list_all (is_field (sorts.of_struct x.name)) x.fields) V.structs
      && (list_all (λ (x : TraitDecl). list_all (is_bound (sorts.of_trait x.name)) x.bounds) V.traits
      && (list_all (λ (i : ImplDecl). list_all is_clause i.clauses) V.impls && (list_all is_trait V.traits && core_is_formed)))

-- a view that passes the test is well-formed
abbrev pub FormedTestTells : Type 0
FormedTestTells = (V : World) (sorts : Sorts) → is_formed_view V sorts ≡ true → IsFormedView V sorts

-- `Sized`, `Clone`, `Copy`, `Tuple` and `FnPtr` have only Self. The traits of calls and `Unsize` have one more type parameter.
-- `Box` has one type parameter.
abbrev pub core_sorts : Sorts
core_sorts = record {
  of_struct = λ s. of_type ∷ [];
  of_trait = λ t.
      if (t == sized) || ((t == clone) || ((t == copy) || ((t == tuple_trait) || (t == fn_ptr_trait)))) then of_type ∷ [] else of_type ∷ of_type ∷ [];
}

-- `core` passes the test
abbrev pub CoreIsFormed : Type 0
CoreIsFormed = is_formed_view core_world core_sorts ≡ true
