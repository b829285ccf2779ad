-- The equations and nested goals that a lawful handler may give for a table of a frame.
use Rattle.std.specs.Prelude.{◌≡◌, Bool, true, false, List, Option, Some, None}
use Rattle.std.specs.List.{slice_get}
use Rattle.type_terms.specs.Promised.Label.{Label, Sort, infer, param, placeholder, canonical}
use Rattle.type_terms.specs.Promised.Trees.{Trees, none, tree, sort_of, is_sort}
use Rattle.type_terms.specs.Trees.{is_a}
use Rattle.type_terms.specs.Made.{terms, is_leaf_label, is_made}
use Rattle.infer_table.specs.Canonical.{GoalTrees}
use Rattle.infer_table.specs.Values.{Value}
use Rattle.goal_evaluator.specs.FrameTables.{is_open_label}

-- ---- terms over canonical variables with these labels as values
abbrev pub is_of_sort : Sort → Option Label → Bool
is_of_sort s None = false
is_of_sort s (Some l) = is_sort (sort_of l) s

-- a canonical variable whose value is a label of its kind, or a label that is not open
abbrev pub is_slot : List Label → Label → Bool
is_slot ls (canonical s i) = is_of_sort s (slice_get ls i)
is_slot ls (infer k v) = false
is_slot ls (param k v) = false
is_slot ls (placeholder k v) = false
is_slot ls l = true

-- no other variable occurs, and leaves have no children
abbrev pub AreOver : List Label → Trees → Type 0
AreOver ls none = Unit {0}
AreOver ls (tree l c o) = (is_slot ls l ≡ true) × (is_leaf_label l ≡ true → c ≡ none) × AreOver ls c × AreOver ls o

pub record IsGoalOver (ls : List Label) (g : GoalTrees) : Type 0 where
  pub environment : AreOver ls g.environment
  pub predicate : AreOver ls g.predicate

-- a term of its kind over these variables
pub record IsValueOver (ls : List Label) (v : Value) : Type 0 where
  pub sort : is_a v.sort v.trees ≡ true
  pub made : is_made is_open_label terms v.trees ≡ true
  pub over : AreOver ls v.trees
