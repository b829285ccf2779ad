-- The state of an evaluation.
use Rattle.std.specs.Prelude.{◌≡◌, ℕ, ◌<◌, List, length, Option}
use Rattle.type_terms.specs.Promised.Handles.{Entry, ArgsHeld}
use Rattle.type_terms.specs.declared.kinds.GenericArgKind.{GenericArgKind}
use Rattle.infer_table.specs.Content.{Table, Ready}
use Rattle.infer_table.specs.declared.canonical.CanonicalVarKind.{CanonicalVarKind}
use Rattle.infer_table.specs.declared.certainty.TypingMode.{TypingMode}
use Rattle.infer_table.specs.declared.goal.Goal.{Goal}
use Rattle.infer_table.specs.declared.response.CanonicalResponse.{CanonicalResponse}
use Rattle.infer_table.specs.Goals.{ClausesHeld, PredicateHeld}
use Rattle.term_folds.specs.declared.predicate.Clause.{Clause}
use Rattle.term_folds.specs.declared.predicate.TraitPredicate.{TraitPredicate}
use Rattle.goal_evaluator.specs.declared.goal.GoalSource.{GoalSource}
use Rattle.goal_evaluator.specs.Lists.{Every}
use Rattle.goal_evaluator.specs.Readings.{ResultHeld}

-- a nested goal that is not yet proved
pub record NestedGoal : Type 0 where
  pub source : GoalSource
  pub clauses : List Clause
  pub predicate : TraitPredicate

abbrev pub nested_goal : GoalSource × Goal → NestedGoal
nested_goal n = record { source = n.0; clauses = n.1.param_env.items; predicate = n.1.predicate }

-- The state: the typing mode, the table, the kinds and values of the input's variables, the nested goals, the replies so far, and
-- for how many replies in all memory is reserved. The lists of goals and replies begin with the oldest.
pub record Context : Type 0 where
  pub mode : TypingMode
  pub table : Table
  pub variables : List CanonicalVarKind
  pub values : List GenericArgKind
  pub nested : List NestedGoal
  pub replies : List (Option CanonicalResponse)
  pub capacity : ℕ

pub record GoalIsHeld (es : List Entry) (n : NestedGoal) : Type 0 where
  pub clauses : ClausesHeld es n.clauses
  pub predicate : PredicateHeld es n.predicate

abbrev pub NestedHeld : List Entry → List NestedGoal → Type 0
NestedHeld es ns = Every (GoalIsHeld es) ns

-- there is room for one more reply
abbrev pub HasRoom : Context → Type 0
HasRoom c = length c.replies < c.capacity

-- there is room for one more reply, and nothing else has changed
abbrev pub MakesRoom : Context → Context → Type 0
MakesRoom old new = HasRoom new × (new ≡ record old { capacity = new.capacity })

-- the handles are of this interner, and the table was made from a new one
pub record IsReadyContext (es : List Entry) (c : Context) : Type 0 where
  pub table : Ready es c.table
  pub values : ArgsHeld es c.values
  pub nested : NestedHeld es c.nested
  pub replies : Every (ResultHeld es) c.replies
