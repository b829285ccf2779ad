-- Resumed candidates compared with candidates that are evaluated anew with all their replies.
use Rattle.std.specs.Prelude.{◌≡◌, List, [], ◌∷◌, ◌++◌, Option, Result, Ok, Err}
use Rattle.type_terms.specs.Promised.Handles.{Entry}
use Rattle.infer_table.specs.Responses.{AnswerTrees, answer_trees}
use Rattle.infer_table.specs.declared.canonical.CanonicalVarKind.{CanonicalVarKind}
use Rattle.infer_table.specs.declared.certainty.TypingMode.{TypingMode}
use Rattle.goal_evaluator.specs.declared.error.EvalError.{EvalError}
use Rattle.goal_evaluator.specs.declared.error.EvalError.TheVariants.{NoSolution, Fault}
use Rattle.goal_evaluator.specs.declared.resuming.OpenCandidate.{OpenCandidate}
use Rattle.goal_evaluator.specs.declared.resuming.CandidateStep.{CandidateStep}
use Rattle.goal_evaluator.specs.declared.resuming.CandidateStep.TheVariants.{Ready, Ask}
use Rattle.goal_evaluator.specs.Ends.{RunIsRefused, Awaits, EndsIn}
use Rattle.goal_evaluator.specs.Evaluating.{AskedQuestion, question_of}
use Rattle.goal_evaluator.specs.Frames.{begun}
use Rattle.goal_evaluator.specs.OpenCandidates.{after_reply, StandsAt}
use Rattle.goal_evaluator.specs.Replays.{run}
use Rattle.goal_evaluator.specs.Script.{Script, done, ask}
use Rattle.goal_evaluator.specs.Trial.{SpecTrees, candidate}

-- the rest of a script after these results, the oldest first
abbrev pub after : {Q A X : Type 0} → Script Q A X → List A → Script Q A X
after (done x) answers = done x
after (ask q k) [] = ask q k
after (ask q k) (a ∷ answers) = after (k a) answers

module _ (mode : TypingMode) (kinds : List CanonicalVarKind) (s : SpecTrees) where
  -- the candidate waits where the evaluation of the candidate with these replies waits, for a goal whose variables are of these
  -- kinds
  pub record IsReplayed (es : List Entry) (replies : List (Option AnswerTrees)) (o : OpenCandidate) : Type 0 where
    pub question : AskedQuestion
    pub waits : after (candidate mode (begun kinds) s) replies ≡ ask question (after_reply es o)

  -- a resumed candidate ends as the evaluation anew with these replies does
  abbrev pub EndsAsReplayed : List Entry → List (Option AnswerTrees) → Result CandidateStep EvalError → Type 0
  EndsAsReplayed es replies (Err (Fault fault)) = Unit {0}
  EndsAsReplayed es replies (Err NoSolution) = RunIsRefused (run (candidate mode (begun kinds) s) replies)
  EndsAsReplayed es replies (Ok (Ready answer)) = EndsIn (λ a more. answer_trees es answer ≡ a) (run (candidate mode (begun kinds) s) replies)
  EndsAsReplayed es replies (Ok (Ask waiting input source)) = Awaits (run (candidate mode (begun kinds) s) replies) (question_of es input source) × IsReplayed es replies waiting

-- a candidate that was just started has no replies
abbrev pub BeginningReplays : Type 0
BeginningReplays =
    (mode : TypingMode) (kinds : List CanonicalVarKind) (s : SpecTrees) (es : List Entry) (result : Result CandidateStep EvalError)
    → StandsAt es (candidate mode (begun kinds) s) result → EndsAsReplayed mode kinds s es [] result

-- a resumed candidate has one more reply
abbrev pub ResumingReplays : Type 0
ResumingReplays =
    (mode : TypingMode) (kinds : List CanonicalVarKind) (s : SpecTrees) (old new : List Entry) (replies : List (Option AnswerTrees)) (o : OpenCandidate) (a : Option AnswerTrees) (result : Result CandidateStep EvalError)
    → IsReplayed mode kinds s old replies o → StandsAt new (after_reply old o a) result → EndsAsReplayed mode kinds s new (replies ++ a ∷ []) result
