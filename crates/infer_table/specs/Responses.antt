-- Responses as trees, and their canonical form.
use Rattle.std.specs.Prelude.{◌≡◌, ℕ, List, [], ◌∷◌, ◌++◌, map, Some}
use Rattle.type_terms.specs.Promised.Label.{Label}
use Rattle.type_terms.specs.Promised.Trees.{Trees, none, ◌+++◌}
use Rattle.type_terms.specs.Promised.Handles.{Entry}
use Rattle.type_terms.specs.Promised.Handles.{ArgsHeld}
use Rattle.type_terms.specs.Kinds.{args_trees}
use Rattle.term_folds.specs.Folds.{Does, FoldsEach}
use Rattle.infer_table.specs.Canonical.{GoalTrees, CanonicalForm, kind_of_leaf, leaves, canonical_label, relabeled}
use Rattle.infer_table.specs.Content.{AllConstraintsHeld}
use Rattle.infer_table.specs.Constraints.{constraint_outline, constraint_pieces, constraints_trees}
use Rattle.infer_table.specs.declared.canonical.CanonicalVarKind.{CanonicalVarKind}
use Rattle.infer_table.specs.declared.certainty.Certainty.{Certainty}
use Rattle.infer_table.specs.declared.terms.RegionConstraint.{RegionConstraint}
use Rattle.infer_table.specs.declared.response.CanonicalResponse.{CanonicalResponse}
use Rattle.infer_table.specs.Unification.{all_recorded}
use Rattle.infer_table.specs.Values.{Value, values_of}

-- a response as trees
pub record AnswerTrees : Type 0 where
  pub kinds : List CanonicalVarKind
  pub certainty : Certainty
  pub values : List Value
  pub constraints : Trees

abbrev pub answer_trees : List Entry → CanonicalResponse → AnswerTrees
answer_trees es r = record { kinds = r.variables.items; certainty = r.certainty; values = values_of es r.var_values.items; constraints = constraints_trees es r.region_constraints.items }

-- a response is numbered like the predicate of a goal without where-clauses, so `'static` is numbered too
abbrev pub as_goal : Trees → GoalTrees
as_goal t = record { environment = none; predicate = t }

-- the canonical form of a response
abbrev pub response_form : List Entry → CanonicalResponse → CanonicalForm
response_form es r = record { goal = as_goal (args_trees es r.var_values.items +++ constraints_trees es r.region_constraints.items); kinds = map Some r.variables.items }

-- the open leaves, each once, in order of first occurrence
abbrev pub answer_leaves : Trees → List Label
answer_leaves t = leaves kind_of_leaf [] t

-- the trees with these leaves replaced by canonical variables
abbrev pub numbered_by : List Label → Trees → Trees
numbered_by ls t = relabeled kind_of_leaf (canonical_label ls) t

-- the handles are of this interner
pub record ResponseHeld (es : List Entry) (r : CanonicalResponse) : Type 0 where
  pub values : ArgsHeld es r.var_values.items
  pub constraints : AllConstraintsHeld es r.region_constraints.items

-- the responses are equal in each part. They may differ in the capacity of a `Vec`
pub record SayTheSame (r s : CanonicalResponse) : Type 0 where
  pub variables : r.variables.items ≡ s.variables.items
  pub certainty : r.certainty ≡ s.certainty
  pub values : r.var_values.items ≡ s.var_values.items
  pub constraints : r.region_constraints.items ≡ s.region_constraints.items

-- each constraint of the second list is the fold of the constraint with its index in the first
abbrev pub ConstraintsFold : (List ℕ → Trees → Does) → List Entry → List RegionConstraint → List Entry → List RegionConstraint → Type 0
ConstraintsFold f old [] new [] = Unit {0}
ConstraintsFold f old (x ∷ xs) new (y ∷ ys) = (constraint_outline y ≡ constraint_outline x) × FoldsEach f [] (constraint_pieces old x) (constraint_pieces new y) × ConstraintsFold f old xs new ys
ConstraintsFold f old _ new _ = ⊥

-- the new list is the old one, further constraints, and then those with these trees, each recorded once
pub record Records (es : List Entry) (old new : List RegionConstraint) (t : Trees) : Type 0 where
  pub between : List RegionConstraint
  pub recorded : constraints_trees es new ≡ all_recorded t (constraints_trees es (old ++ between))
