-- Candidates that can be resumed where they stopped. The rest of their evaluation is a script.
use Rattle.std.specs.Prelude.{◌≡◌, ◌≤◌, ◌+◌, ℕ, zero, suc, length, not, ◌&&◌, Bool, List, map, Option, Some, None, Result, Ok, Err}
use Rattle.type_terms.specs.Promised.Handles.{Entry, ArgsHeld}
use Rattle.infer_table.specs.Content.{Ready}
use Rattle.goal_evaluator.specs.declared.TheConstants.{FIXPOINT_STEP_LIMIT}
use Rattle.infer_table.specs.Certainties.{joined, is_certain}
use Rattle.infer_table.specs.Unification.{table_trees}
use Rattle.infer_table.specs.Values.{Value, values_of}
use Rattle.infer_table.specs.Goals.{GoalHeld}
use Rattle.infer_table.specs.Responses.{AnswerTrees, ResponseHeld, answer_trees}
use Rattle.infer_table.specs.declared.canonical.CanonicalVarKind.{CanonicalVarKind}
use Rattle.infer_table.specs.declared.certainty.Certainty.{Certainty}
use Rattle.infer_table.specs.declared.certainty.TypingMode.{TypingMode}
use Rattle.infer_table.specs.declared.goal.Goal.{Goal}
use Rattle.infer_table.specs.declared.response.CanonicalResponse.{CanonicalResponse}
use Rattle.goal_evaluator.specs.declared.error.EvalError.{EvalError}
use Rattle.goal_evaluator.specs.declared.error.EvalError.TheVariants.{NoSolution, Fault}
use Rattle.goal_evaluator.specs.declared.goal.GoalSource.{GoalSource}
use Rattle.goal_evaluator.specs.declared.resuming.Evaluation.{Evaluation}
use Rattle.goal_evaluator.specs.declared.resuming.OpenRound.{OpenRound}
use Rattle.goal_evaluator.specs.declared.resuming.OpenCandidate.{OpenCandidate}
use Rattle.goal_evaluator.specs.declared.resuming.CandidateStep.{CandidateStep}
use Rattle.goal_evaluator.specs.declared.resuming.CandidateStep.TheVariants.{Ready as IsReady, Ask}
use Rattle.goal_evaluator.specs.Context.{NestedHeld, GoalIsHeld, nested_goal}
use Rattle.goal_evaluator.specs.Evaluating.{AskedQuestion, question_of, nested_trees, evaluation, values_asked}
use Rattle.goal_evaluator.specs.OpenRounds.{SoFar, rest_of_round, after_answer}
use Rattle.goal_evaluator.specs.OwnAnswers.{answer_of}
use Rattle.goal_evaluator.specs.Responses.{is_identity_modulo_regions}
use Rattle.goal_evaluator.specs.Rounds.{Rounds, rounds}
use Rattle.goal_evaluator.specs.Script.{Script, done, ask, followed}
use Rattle.goal_evaluator.specs.Trial.{premises_trees}

-- the script of a candidate's evaluation, which ends with `None` if there is no solution
abbrev pub CandidateAsking : Type 0
CandidateAsking = Script AskedQuestion (Option AnswerTrees) (Option AnswerTrees)

-- the response after the rounds
abbrev pub finished : (mode : TypingMode) → List CanonicalVarKind → List Value → Certainty → Option (Rounds (evaluation mode)) → CandidateAsking
finished mode kinds own c None = done None
finished mode kinds own c (Some o) = done (Some (answer_of kinds own o.table (joined c o.certainty)))

-- the response of its table, with the joined certainty of the candidate and its goals
abbrev pub answer_with : List Entry → Evaluation → Certainty → AnswerTrees
answer_with es e of_goals = answer_of e.variables.items (values_of es e.own.items) (table_trees es e.table) (joined e.certainty of_goals)

-- the round in progress, with at most `limit` rounds after it
abbrev pub so_far : (mode : TypingMode) → List Entry → ℕ → OpenRound → SoFar (evaluation mode)
so_far mode es limit r = record { limit = limit; left = premises_trees es r.left.items; changed = r.changed; certainty = r.certainty }

-- the rest of the evaluation, if these goals follow in the round
abbrev pub rest_script : List Entry → Evaluation → ℕ → OpenRound → List (GoalSource × Goal) → CandidateAsking
rest_script es e limit r goals =
    followed (finished e.mode e.variables.items (values_of es e.own.items) e.certainty) (rest_of_round (evaluation e.mode) (so_far e.mode es limit r) (premises_trees es goals) (table_trees es e.table))

-- the whole evaluation, from the first round on
abbrev pub rounds_script : List Entry → Evaluation → List (GoalSource × Goal) → CandidateAsking
rounds_script es e goals =
    followed (finished e.mode e.variables.items (values_of es e.own.items) e.certainty) (rounds (evaluation e.mode) FIXPOINT_STEP_LIMIT (premises_trees es goals) (table_trees es e.table))

-- the rest after the response for which it waits
abbrev pub after_reply : List Entry → OpenCandidate → Option AnswerTrees → CandidateAsking
after_reply es o a =
    followed (finished o.evaluation.mode o.evaluation.variables.items (values_of es o.evaluation.own.items) o.evaluation.certainty)
    (after_answer (evaluation o.evaluation.mode) (so_far o.evaluation.mode es o.rounds_left o.round) (table_trees es o.evaluation.table) (nested_trees es (nested_goal o.goal)) (premises_trees es o.goals.items) a)

-- The end of a call, if this script was the rest of the evaluation: the call waits for a nested goal, returns the response, or
-- returns `NoSolution`. After a fault nothing is stated.
abbrev pub StandsAt : List Entry → CandidateAsking → Result CandidateStep EvalError → Type 0
StandsAt es s (Err (Fault fault)) = Unit {0}
StandsAt es s (Err NoSolution) = s ≡ done None
StandsAt es s (Ok (IsReady answer)) = s ≡ done (Some (answer_trees es answer))
StandsAt es s (Ok (Ask waiting input source)) = s ≡ ask (question_of es input source) (after_reply es waiting)

-- ---- the handles are of this interner
pub record EvaluationHeld (es : List Entry) (e : Evaluation) : Type 0 where
  pub table : Ready es e.table
  pub own : ArgsHeld es e.own.items

-- and the values are those of the goal for which it waits
pub record OpenHeld (es : List Entry) (o : OpenCandidate) : Type 0 where
  pub evaluation : EvaluationHeld es o.evaluation
  pub left : NestedHeld es (map nested_goal o.round.left.items)
  pub goal : GoalIsHeld es (nested_goal o.goal)
  pub goals : NestedHeld es (map nested_goal o.goals.items)
  pub values : ArgsHeld es o.values.items
  pub values_are : values_of es o.values.items ≡ values_asked es o.evaluation.table (nested_goal o.goal)

abbrev pub CandidateHeld : List Entry → CandidateStep → Type 0
CandidateHeld es (IsReady answer) = ResponseHeld es answer
CandidateHeld es (Ask waiting input source) = OpenHeld es waiting × GoalHeld es input.goal

-- the candidate has a response
abbrev pub CandidateIsOver : CandidateStep → Type 0
CandidateIsOver (IsReady answer) = Unit {0}
CandidateIsOver (Ask waiting input source) = ⊥

-- ---- a response to a goal of a round
abbrev pub brings_values : List Entry → CanonicalResponse → Bool
brings_values es r = not (is_identity_modulo_regions 0 (values_of es r.var_values.items))

abbrev pub is_definite : List Entry → CanonicalResponse → Bool
is_definite es r = is_certain r.certainty && not (brings_values es r)

-- ---- how many responses may still be requested
-- with so many goals that stay, so many that follow in the round, and so many rounds after it
abbrev pub most_questions : ℕ → ℕ → ℕ → ℕ
most_questions zero left goals = goals
most_questions (suc rounds) left goals = (left + goals) + most_questions rounds left goals

-- by a candidate that waits, including the response for which it waits
abbrev pub questions_left : OpenCandidate → ℕ
questions_left o = most_questions o.rounds_left (length o.round.left.items) (suc (length o.goals.items))

-- the candidate requests at most so many responses
abbrev pub AsksAtMost : ℕ → CandidateStep → Type 0
AsksAtMost n (IsReady answer) = Unit {0}
AsksAtMost n (Ask waiting input source) = questions_left waiting ≤ n
