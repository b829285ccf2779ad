-- Goals and values that a table resolves, from which canonical forms are made.
use Rattle.std.specs.Prelude.{◌≡◌, ◌↔◌, Bool, IsTrue, List}
use Rattle.type_terms.specs.Promised.Label.{Label}
use Rattle.type_terms.specs.Promised.Trees.{Trees, ◌+++◌}
use Rattle.type_terms.specs.Promised.Handles.{Entry}
use Rattle.type_terms.specs.Kinds.{args_trees}
use Rattle.type_terms.specs.declared.kinds.GenericArgKind.{GenericArgKind}
use Rattle.infer_table.specs.Solutions.{resolved}
use Rattle.infer_table.specs.Content.{Table, content}
use Rattle.infer_table.specs.Constraints.{constraints_trees}
use Rattle.infer_table.specs.Canonical.{GoalTrees}
use Rattle.infer_table.specs.Goals.{goal_trees, goal_resolved}
use Rattle.infer_table.specs.Values.{values_of, goal_filled}
use Rattle.infer_table.specs.Responses.{answer_leaves, numbered_by}
use Rattle.infer_table.specs.Inputs.{IsCanonicalInput, IsWithoutCanonical, IsOneQuestion}
use Rattle.infer_table.specs.declared.goal.Goal.{Goal}
use Rattle.infer_table.specs.declared.input.CanonicalInput.{CanonicalInput}
use Rattle.infer_table.specs.declared.input.Canonicalized.{Canonicalized}

-- ---- goals
-- the goal, resolved by the table
abbrev pub resolved_goal : List Entry → Table → Goal → GoalTrees
resolved_goal es t g = goal_resolved (content es t.values) (goal_trees es g)

-- the form with these values for its variables is this goal, if that has no canonical variables
abbrev pub GivesBack : List Entry → Canonicalized → GoalTrees → Type 0
GivesBack es r g = IsWithoutCanonical g → goal_filled (values_of es r.values.items) (goal_trees es r.input.goal) ≡ g

-- the Boolean is whether the goals of the two inputs are equal up to a renaming, and in the same mode
abbrev pub TellsQuestions : List Entry → CanonicalInput → CanonicalInput → Bool → Type 0
TellsQuestions es a b same =
    (g h : GoalTrees) → IsWithoutCanonical g → IsWithoutCanonical h → IsCanonicalInput es g a → IsCanonicalInput es h b
    → (IsTrue same ↔ IsOneQuestion a.mode g b.mode h)

-- ---- responses
-- the values, resolved by the table
abbrev pub values_resolved : List Entry → Table → List GenericArgKind → Trees
values_resolved es t values = resolved (content es t.values) (args_trees es values)

-- the resolved values and constraints: a response
abbrev pub answer_given : List Entry → Table → List GenericArgKind → Trees
answer_given es t values = resolved (content es t.values) (args_trees es values +++ constraints_trees es t.constraints)

-- the open leaves of the response, each once, in order of first occurrence
abbrev pub given_leaves : List Entry → Table → List GenericArgKind → List Label
given_leaves es t values = answer_leaves (answer_given es t values)

-- the values, and the constraints, with these leaves replaced by canonical variables
abbrev pub numbered_values : List Entry → Table → List GenericArgKind → Trees
numbered_values es t values = numbered_by (given_leaves es t values) (values_resolved es t values)

abbrev pub numbered_constraints : List Entry → Table → List GenericArgKind → Trees
numbered_constraints es t values = numbered_by (given_leaves es t values) (resolved (content es t.values) (constraints_trees es t.constraints))
