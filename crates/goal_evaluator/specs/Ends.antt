-- How the evaluating calls of a context end.
use Rattle.std.specs.Prelude.{◌≡◌, List, [], Option, Some, None, Result, Ok, Err}
use Rattle.type_terms.specs.Promised.Handles.{Entry, Keeps}
use Rattle.infer_table.specs.declared.certainty.Certainty.{Certainty}
use Rattle.infer_table.specs.declared.certainty.TypingMode.{TypingMode}
use Rattle.infer_table.specs.Certainties.{joined}
use Rattle.infer_table.specs.Unification.{table_trees}
use Rattle.infer_table.specs.declared.response.CanonicalResponse.{CanonicalResponse}
use Rattle.infer_table.specs.Goals.{GoalHeld}
use Rattle.goal_evaluator.specs.Replays.{Run, ready, waits}
use Rattle.goal_evaluator.specs.Rounds.{Rounds}
use Rattle.goal_evaluator.specs.declared.context.EvalStep.{EvalStep}
use Rattle.goal_evaluator.specs.declared.context.EvalStep.TheVariants as Step
use Rattle.goal_evaluator.specs.declared.error.EvalError.{EvalError}
use Rattle.goal_evaluator.specs.declared.error.EvalError.TheVariants.{NoSolution, Fault}
use Rattle.infer_table.specs.Values.{values_of}
use Rattle.infer_table.specs.Responses.{AnswerTrees, ResponseHeld, answer_trees}
use Rattle.goal_evaluator.specs.Context.{Context, MakesRoom}
use Rattle.goal_evaluator.specs.Evaluating.{AskedQuestion, question_of, goals_trees, evaluation}
use Rattle.goal_evaluator.specs.OwnAnswers.{OwnAnswerSays, answer_of}

-- the handles of a nested goal or of a response are of this interner
abbrev pub AnswerHeld : List Entry → EvalStep CanonicalResponse → Type 0
AnswerHeld es (Step.Ask input source) = GoalHeld es input.goal
AnswerHeld es (Step.Ready answer) = ResponseHeld es answer

module _ {X : Type 0} where
  -- a nested goal has no solution
  abbrev pub RunIsRefused : Run AskedQuestion (Option AnswerTrees) (Option X) → Type 0
  RunIsRefused (ready None more) = Unit {0}
  RunIsRefused (ready (Some o) more) = ⊥
  RunIsRefused (waits q) = ⊥

  -- there is no reply to this nested goal
  abbrev pub Awaits : Run AskedQuestion (Option AnswerTrees) (Option X) → AskedQuestion → Type 0
  Awaits (ready o more) q = ⊥
  Awaits (waits p) q = p ≡ q

  -- it ended with these replies unused
  abbrev pub EndsIn : (X → List (Option AnswerTrees) → Type 0) → Run AskedQuestion (Option AnswerTrees) (Option X) → Type 0
  EndsIn P (ready None more) = ⊥
  EndsIn P (ready (Some o) more) = P o more
  EndsIn P (waits q) = ⊥

module _ (mode : TypingMode) (es : List Entry) (old new : Context) where
  -- after the end of the rounds the context has their table and remaining goals, and no replies
  pub record ContextIsSettled (o : Rounds (evaluation mode)) : Type 0 where
    pub table : o.table ≡ table_trees es new.table
    pub left : o.left ≡ goals_trees es new.nested
    pub rest : new ≡ record old { table = new.table; nested = new.nested; replies = [] }

  -- How an evaluating call ends. After an error the context is unchanged. If it asks, there is room for the reply, and nothing
  -- else has changed.
  abbrev pub CallEnds : Run AskedQuestion (Option AnswerTrees) (Option (Rounds (evaluation mode))) → Result (EvalStep Certainty) EvalError → Type 0
  CallEnds r (Err (Fault fault)) = new ≡ old
  CallEnds r (Err NoSolution) = RunIsRefused r × (new ≡ old)
  CallEnds r (Ok (Step.Ask input source)) = Awaits r (question_of es input source) × MakesRoom old new
  CallEnds r (Ok (Step.Ready certainty)) = EndsIn (λ o more. ContextIsSettled o × (o.certainty ≡ certainty)) r

  -- The same with the context's response, whose certainty joins this certainty with that of the goals. It is a function of the
  -- terms that the rounds left. `terms` is the interner's content before the response was made.
  pub record ContextIsAnswered (certainty : Certainty) (r : CanonicalResponse) (o : Rounds (evaluation mode)) : Type 0 where
    pub settled : ContextIsSettled o
    pub certainty_is : r.certainty ≡ joined certainty o.certainty
    pub terms : List Entry
    pub keeps : Keeps terms es
    pub says : OwnAnswerSays terms es new r (joined certainty o.certainty)
    pub is : answer_trees es r ≡ answer_of old.variables (values_of es old.values) o.table (joined certainty o.certainty)

  abbrev pub AnswerEnds : Certainty → Run AskedQuestion (Option AnswerTrees) (Option (Rounds (evaluation mode))) → Result (EvalStep CanonicalResponse) EvalError → Type 0
  AnswerEnds certainty r (Err (Fault fault)) = new ≡ old
  AnswerEnds certainty r (Err NoSolution) = RunIsRefused r × (new ≡ old)
  AnswerEnds certainty r (Ok (Step.Ask input source)) = Awaits r (question_of es input source) × MakesRoom old new
  AnswerEnds certainty r (Ok (Step.Ready answer)) = EndsIn (λ o more. ContextIsAnswered certainty answer o) r
