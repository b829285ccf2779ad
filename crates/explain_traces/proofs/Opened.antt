-- What is opened over a table stays the interner's while that grows.
use Rattle.std.proofs.Common.{List, [], ◌∷◌}
use Rattle.type_terms.specs.Promised.Handles.{Entry, Keeps}
use Rattle.infer_table.specs.declared.goal.Goal.{Goal}
use Rattle.infer_table.specs.Goals.{GoalHeld}
use Rattle.infer_table.proofs.Numbers.{goal-held-later}
use Rattle.goal_evaluator.specs.Lists.{Every}
use Rattle.goal_evaluator.specs.declared.goal.GoalSource.{GoalSource}

abbrev pub NestedGoalHeld : List Entry → GoalSource × Goal → Type 0
NestedGoalHeld es n = GoalHeld es n.1

pub nested-later : (old new : List Entry) → Keeps old new → (xs : List (GoalSource × Goal)) → Every (NestedGoalHeld old) xs → Every (NestedGoalHeld new) xs
nested-later old new k [] h = tt
nested-later old new k (x ∷ xs) h = (goal-held-later old new k x.1 h.0, nested-later old new k xs h.1)
