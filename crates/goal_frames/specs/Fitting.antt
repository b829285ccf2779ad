-- The variables in a handler's candidates and responses.
use Rattle.std.specs.Prelude.{List, Option, Some, None}
use Rattle.type_terms.specs.Promised.Label.{Label}
use Rattle.type_terms.specs.Promised.Handles.{Entry}
use Rattle.infer_table.specs.declared.canonical.CanonicalVarKind.{CanonicalVarKind}
use Rattle.infer_table.specs.declared.terms.Equation.{Equation}
use Rattle.infer_table.specs.Constraints.{constraints_trees}
use Rattle.infer_table.specs.declared.goal.Goal.{Goal}
use Rattle.infer_table.specs.declared.response.CanonicalResponse.{CanonicalResponse}
use Rattle.infer_table.specs.Goals.{goal_trees}
use Rattle.infer_table.specs.Values.{value_of}
use Rattle.infer_table.specs.Responses.{AnswerTrees, answer_trees}
use Rattle.goal_evaluator.specs.Lists.{Every}
use Rattle.goal_evaluator.specs.declared.candidate.CandidateSpec.{CandidateSpec}
use Rattle.goal_evaluator.specs.declared.candidate.Considered.{Considered}
use Rattle.goal_evaluator.specs.declared.candidate.HandlerStep.{HandlerStep}
use Rattle.goal_evaluator.specs.declared.candidate.HandlerStep.TheVariants.{Consider, Answer, NoSolution}
use Rattle.goal_evaluator.specs.declared.goal.GoalSource.{GoalSource}
use Rattle.goal_evaluator.specs.TableAnswers.{IsWellFormed}
use Rattle.goal_evaluator.specs.Fitting.{AreOver, IsGoalOver, IsValueOver}
use Rattle.goal_evaluator.specs.Candidates.{labels_of}

-- ---- responses
-- each value is a term over the response's own variables
abbrev pub AnswerFits : Option AnswerTrees → Type 0
AnswerFits None = Unit {0}
AnswerFits (Some a) = IsWellFormed a

abbrev pub ResultFits : List Entry → Option CanonicalResponse → Type 0
ResultFits es None = Unit {0}
ResultFits es (Some r) = IsWellFormed (answer_trees es r)

abbrev pub ConsideredFits : List Entry → List Considered → Type 0
ConsideredFits es done = Every (λ (d : Considered). ResultFits es d.result) done

-- ---- candidates
abbrev pub IsEquationOver : List Label → List Entry → Equation → Type 0
IsEquationOver ls es e = IsValueOver ls (value_of es e.left) × IsValueOver ls (value_of es e.right)

-- the candidate's terms contain only variables of a goal, which are of these kinds, and its own
pub record IsOver (kinds : List CanonicalVarKind) (es : List Entry) (s : CandidateSpec) : Type 0 where
  pub equations : Every (IsEquationOver (labels_of kinds s.variables.items) es) s.equations.items
  pub constraints : AreOver (labels_of kinds s.variables.items) (constraints_trees es s.region_constraints.items)
  pub nested : Every (λ (n : GoalSource × Goal). IsGoalOver (labels_of kinds s.variables.items) (goal_trees es n.1)) s.nested_goals.items

abbrev pub StepFits : List CanonicalVarKind → List Entry → HandlerStep → Type 0
StepFits kinds es (Consider s) = IsOver kinds es s
StepFits kinds es (Answer r ignored) = IsWellFormed (answer_trees es r)
StepFits kinds es NoSolution = Unit {0}
