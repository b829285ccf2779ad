-- How the rounds in code end: like the run of the rounds.
use Rattle.std.specs.Prelude.{◌≡◌, Bool, List, ◌++◌, map, Option, Result, Ok, Err}
use Rattle.type_terms.specs.Promised.Handles.{Entry}
use Rattle.infer_table.specs.declared.certainty.Certainty.{Certainty}
use Rattle.infer_table.specs.declared.certainty.TypingMode.{TypingMode}
use Rattle.infer_table.specs.Content.{Table}
use Rattle.infer_table.specs.Unification.{table_trees}
use Rattle.infer_table.specs.Goals.{GoalHeld}
use Rattle.goal_evaluator.specs.Lists.{Every}
use Rattle.goal_evaluator.specs.Readings.{ResultHeld}
use Rattle.goal_evaluator.specs.Replays.{Run}
use Rattle.goal_evaluator.specs.Rounds.{Round, Rounds}
use Rattle.goal_evaluator.specs.declared.error.EvalError.{EvalError}
use Rattle.goal_evaluator.specs.declared.error.EvalError.TheVariants.{NoSolution, Fault}
use Rattle.goal_evaluator.specs.declared.rounds.RoundStep.{RoundStep}
use Rattle.goal_evaluator.specs.declared.rounds.RoundStep.TheVariants as Of
use Rattle.goal_evaluator.specs.declared.rounds.RoundsStep.{RoundsStep}
use Rattle.goal_evaluator.specs.declared.rounds.RoundsStep.TheVariants as OfRounds
use Rattle.infer_table.specs.Responses.{AnswerTrees}
use Rattle.goal_evaluator.specs.Context.{Context, NestedGoal, NestedHeld, MakesRoom, nested_goal}
use Rattle.goal_evaluator.specs.Ends.{RunIsRefused, Awaits, EndsIn}
use Rattle.goal_evaluator.specs.Evaluating.{AskedQuestion, question_of, goals_trees, replies_trees, evaluation}

module _ (mode : TypingMode) (es : List Entry) (T : Table) where
  -- with this table, and these goals after the earlier ones
  pub record SameRound (before after : List NestedGoal) (o : Round (evaluation mode)) (changed : Bool) (certainty : Certainty) : Type 0 where
    pub table : o.table ≡ table_trees es T
    pub left : goals_trees es after ≡ goals_trees es before ++ o.left
    pub changed_is : o.changed ≡ changed
    pub certainty_is : o.certainty ≡ certainty

  -- after a fault nothing is stated
  abbrev pub RoundEnds : List NestedGoal → List NestedGoal → Run AskedQuestion (Option AnswerTrees) (Option (Round (evaluation mode))) → Result RoundStep EvalError → Type 0
  RoundEnds before after r (Err (Fault fault)) = Unit {0}
  RoundEnds before after r (Err NoSolution) = RunIsRefused r
  RoundEnds before after r (Ok (Of.Waits input source)) = Awaits r (question_of es input source)
  RoundEnds before after r (Ok (Of.Ended changed certainty replies)) = EndsIn (λ o more. SameRound before after o changed certainty × (more ≡ replies_trees es replies.now)) r

  pub record SameRounds (left : List NestedGoal) (certainty : Certainty) (o : Rounds (evaluation mode)) : Type 0 where
    pub table : o.table ≡ table_trees es T
    pub left_is : o.left ≡ goals_trees es left
    pub certainty_is : o.certainty ≡ certainty

  abbrev pub RoundsEnd : Run AskedQuestion (Option AnswerTrees) (Option (Rounds (evaluation mode))) → Result RoundsStep EvalError → Type 0
  RoundsEnd r (Err (Fault fault)) = Unit {0}
  RoundsEnd r (Err NoSolution) = RunIsRefused r
  RoundsEnd r (Ok (OfRounds.Waits input source)) = Awaits r (question_of es input source)
  RoundsEnd r (Ok (OfRounds.Ended left certainty)) = EndsIn (λ o more. SameRounds (map nested_goal left.items) certainty o) r

-- the handles of remaining goals, or of the goal for which it waits, are of this interner
abbrev pub RoundHeld : List Entry → RoundStep → Type 0
RoundHeld es (Of.Waits input source) = GoalHeld es input.goal
RoundHeld es (Of.Ended changed certainty replies) = Every (ResultHeld es) replies.now

abbrev pub RoundsHeld : List Entry → RoundsStep → Type 0
RoundsHeld es (OfRounds.Waits input source) = GoalHeld es input.goal
RoundsHeld es (OfRounds.Ended left certainty) = NestedHeld es (map nested_goal left.items)

-- If the rounds end, only the context's table has changed. If they wait, there is room for the reply, and nothing else has
-- changed. After an error the context is unchanged.
abbrev pub LeavesContext : Context → Context → Result RoundsStep EvalError → Type 0
LeavesContext old new (Err error) = new ≡ old
LeavesContext old new (Ok (OfRounds.Waits input source)) = MakesRoom old new
LeavesContext old new (Ok (OfRounds.Ended left certainty)) = new ≡ record old { table = new.table }
