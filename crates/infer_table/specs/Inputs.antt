-- Canonical goals, and when two are equal.
use Rattle.std.specs.Prelude.{◌≡◌, List, [], map, Some}
use Rattle.type_terms.specs.Promised.Handles.{Entry}
use Rattle.infer_table.specs.Canonical.{GoalTrees, CanonicalForm, canonical_form, HasNoCanonical, AreRenamings}
use Rattle.infer_table.specs.declared.certainty.TypingMode.{TypingMode}
use Rattle.infer_table.specs.declared.goal.Goal.{Goal}
use Rattle.infer_table.specs.declared.input.CanonicalInput.{CanonicalInput}
use Rattle.infer_table.specs.declared.input.Canonicalized.{Canonicalized}
use Rattle.infer_table.specs.Goals.{GoalHeld, goal_trees}

-- a canonical goal as trees
abbrev pub form_of : List Entry → CanonicalInput → CanonicalForm
form_of es a = record { goal = goal_trees es a.goal; kinds = map Some a.variables.items }

-- the input is the canonical form of this goal
pub record IsCanonicalInput (es : List Entry) (g : GoalTrees) (a : CanonicalInput) : Type 0 where
  pub held : GoalHeld es a.goal
  pub form : form_of es a ≡ canonical_form g

-- the inputs are equal in each part
pub record AreEqual (a b : CanonicalInput) : Type 0 where
  pub mode : a.mode ≡ b.mode
  pub environment : a.goal.param_env.items ≡ b.goal.param_env.items
  pub predicate : a.goal.predicate ≡ b.goal.predicate
  pub variables : a.variables.items ≡ b.variables.items

-- the canonical form is the goal itself, without variables and values
pub record IsItsOwnForm (m : TypingMode) (g : Goal) (r : Canonicalized) : Type 0 where
  pub mode : r.input.mode ≡ m
  pub environment : r.input.goal.param_env.items ≡ g.param_env.items
  pub predicate : r.input.goal.predicate ≡ g.predicate
  pub variables : r.input.variables.items ≡ []
  pub values : r.values.items ≡ []

-- no canonical variable occurs in the goal
pub record IsWithoutCanonical (g : GoalTrees) : Type 0 where
  pub environment : HasNoCanonical g.environment
  pub predicate : HasNoCanonical g.predicate

-- the goals have the same mode, and a renaming maps one to the other
abbrev pub IsOneQuestion : TypingMode → GoalTrees → TypingMode → GoalTrees → Type 0
IsOneQuestion m g n h = (m ≡ n) × AreRenamings g h
