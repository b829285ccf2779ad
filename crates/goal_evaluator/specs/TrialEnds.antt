-- How the evaluation of a candidate ends.
use Rattle.std.specs.Prelude.{◌≡◌, List, Option, Some, Result, Ok, Err}
use Rattle.type_terms.specs.Promised.Handles.{Entry}
use Rattle.infer_table.specs.declared.canonical.CanonicalVarKind.{CanonicalVarKind}
use Rattle.infer_table.specs.Unification.{table_trees}
use Rattle.infer_table.specs.Values.{values_of}
use Rattle.infer_table.specs.declared.response.CanonicalResponse.{CanonicalResponse}
use Rattle.infer_table.specs.Responses.{AnswerTrees, answer_trees}
use Rattle.goal_evaluator.specs.Replays.{Run}
use Rattle.goal_evaluator.specs.declared.context.EvalStep.{EvalStep}
use Rattle.goal_evaluator.specs.declared.context.EvalStep.TheVariants.{Ready, Ask}
use Rattle.goal_evaluator.specs.declared.error.EvalError.{EvalError}
use Rattle.goal_evaluator.specs.declared.error.EvalError.TheVariants.{NoSolution, Fault}
use Rattle.goal_evaluator.specs.Ends.{RunIsRefused, Awaits, EndsIn}
use Rattle.goal_evaluator.specs.Evaluating.{AskedQuestion, question_of}
use Rattle.goal_evaluator.specs.declared.trial.Trial.{Trial}
use Rattle.goal_evaluator.specs.Frames.{FrameTrees, begun, fresh, equate, recorded}
use Rattle.goal_evaluator.specs.Trial.{SpecTrees}

-- a candidate's state after its equations, over terms
abbrev pub trial_trees : List Entry → List CanonicalVarKind → Trial → FrameTrees
trial_trees es kinds t = record { kinds = kinds; own = values_of es t.own.items; values = values_of es t.values.items; table = table_trees es t.table }

-- the state of a candidate whose equations hold and whose constraints are recorded, for a goal with variables of these kinds
pub record IsTried (kinds : List CanonicalVarKind) (s : SpecTrees) (t : FrameTrees) : Type 0 where
  pub solved : FrameTrees
  pub holds : equate (fresh (begun kinds) s.kinds) s.equations ≡ Some solved
  pub is : t ≡ recorded solved s.constraints

-- after a fault nothing is stated
abbrev pub CandidateEnds : List Entry → Run AskedQuestion (Option AnswerTrees) (Option AnswerTrees) → Result (EvalStep CanonicalResponse) EvalError → Type 0
CandidateEnds es r (Err (Fault fault)) = Unit {0}
CandidateEnds es r (Err NoSolution) = RunIsRefused r
CandidateEnds es r (Ok (Ask input source)) = Awaits r (question_of es input source)
CandidateEnds es r (Ok (Ready answer)) = EndsIn (λ a more. answer_trees es answer ≡ a) r
