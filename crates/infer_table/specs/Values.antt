-- The replacement of canonical variables by values.
use Rattle.std.specs.Prelude.{◌≡◌, ℕ, Bool, true, false, List, [], ◌∷◌, map, Option, Some, None, if◌then◌else◌, ◌==◌, ◌&&◌, bit_and, refl}
use Rattle.std.specs.List.{slice_get}
use Rattle.std.proofs.Common.{ap}
use Rattle.type_terms.specs.Promised.Label.{Label, Sort, of_type, of_const, of_lifetime, canonical, principal, auto_trait}
use Rattle.type_terms.specs.Promised.Trees.{Trees, none, tree, ◌+++◌, is_sort}
use Rattle.type_terms.specs.Trees.{put_at_node, flags}
use Rattle.type_terms.specs.Promised.Handles.{Entry, Keeps}
use Rattle.type_terms.specs.Promised.Handles.{ArgsHeld, arg_trees}
use Rattle.type_terms.specs.declared.kinds.GenericArgKind.{GenericArgKind}
use Rattle.type_terms.specs.declared.kinds.GenericArgKind.TheVariants.{Lifetime, Ty, Const}
use Rattle.term_folds.specs.Folds.{Does, enters, puts, again}
use Rattle.type_terms.specs.Visits.{IsBound}
use Rattle.type_terms.specs.Kept.{arg-trees-later}
use Rattle.infer_table.specs.Canonical.{GoalTrees}
use Rattle.infer_table.specs.Leaves.{is_type_label}
use Rattle.infer_table.specs.declared.instantiate.TheConstants.{BOUND_FLAGS}

-- a value: its kind and its tree
pub record Value : Type 0 where
  pub sort : Sort
  pub trees : Trees

abbrev pub sort_of_arg : GenericArgKind → Sort
sort_of_arg (Lifetime r) = of_lifetime
sort_of_arg (Ty t) = of_type
sort_of_arg (Const c) = of_const

abbrev pub value_of : List Entry → GenericArgKind → Value
value_of es a = record { sort = sort_of_arg a; trees = arg_trees es a }

abbrev pub values_of : List Entry → List GenericArgKind → List Value
values_of es xs = map (value_of es) xs

abbrev pub if_of_sort : Sort → Option Value → Option Trees
if_of_sort s None = None
if_of_sort s (Some v) = if is_sort v.sort s then Some v.trees else None

-- the value of a canonical variable, if there is one of its kind
abbrev pub value_for : List Value → Label → Option Trees
value_for vs (canonical s i) = if_of_sort s (slice_get vs i)
value_for vs l = None

-- the trees with each canonical variable replaced by its value, if it has one
abbrev pub filled_values : List Value → Trees → Trees
filled_values vs none = none
filled_values vs (tree l c o) = put_at_node (value_for vs l) (tree l (filled_values vs c) none) +++ filled_values vs o

abbrev pub goal_filled : List Value → GoalTrees → GoalTrees
goal_filled vs g = record { environment = filled_values vs g.environment; predicate = filled_values vs g.predicate }

-- ---- the folder
abbrev pub put_if_there : Option Trees → Does
put_if_there None = enters
put_if_there (Some t) = puts t

-- trees with these flags have no bound variable. Canonical variables are bound variables
abbrev pub are_unbound_flags : ℕ → Bool
are_unbound_flags f = bit_and f BOUND_FLAGS == 0

abbrev pub is_unbound : Trees → Bool
is_unbound t = are_unbound_flags (flags t)

-- what the folder of values does at a node. It replaces a type without bound variables by itself
abbrev pub filling : List Value → Trees → Does
filling vs none = enters
filling vs (tree l c o) = if is_type_label l && is_unbound (tree l c none) then puts (tree l c none) else put_if_there (value_for vs l)

pub filling-bounds : (vs : List Value) (t : Trees) → IsBound t → filling vs t ≡ enters
filling-bounds vs (tree (principal n i) c o) h = refl
filling-bounds vs (tree (auto_trait i) c o) h = refl
filling-bounds vs none h = refl
filling-bounds vs (tree l c o) h = absurd h

pub filling-once : (vs : List Value) (t s : Trees) → filling vs t ≡ again s → ⊥
filling-once vs none s e = cc
filling-once vs (tree l c o) s e = by (is_type_label l && is_unbound (tree l c none)) (value_for vs l) (tree l c none) e
  where
    by : (b : Bool) (v : Option Trees) (t : Trees) → (if b then puts t else put_if_there v) ≡ again s → ⊥
    by true v t e = cc
    by false None t e = cc
    by false (Some u) t e = cc

next : (v w : Value) (vs ws : List Value) → v ≡ w → vs ≡ ws → ◌≡◌ {A = List Value} (v ∷ vs) (w ∷ ws)
next v w vs ws p q = cc

pub values-later : (old new : List Entry) → Keeps old new → (xs : List GenericArgKind) → ArgsHeld old xs → values_of new xs ≡ values_of old xs
values-later old new k [] h = refl
values-later old new k (x ∷ xs) h = next _ _ _ _ (ap (λ (t : Trees). record { sort = sort_of_arg x; trees = t }) (arg-trees-later old new k x h.0)) (values-later old new k xs h.1)

pub filling-later : (old new : List Entry) → Keeps old new → (xs : List GenericArgKind) → ArgsHeld old xs
    → ◌≡◌ {A = List ℕ → Trees → Does} (λ bs t. filling (values_of new xs) t) (λ bs t. filling (values_of old xs) t)
filling-later old new k xs h = ap (λ vs. λ (bs : List ℕ) (t : Trees). filling vs t) (values-later old new k xs h)
