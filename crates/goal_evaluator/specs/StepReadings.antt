-- The terms that the candidates and requests of handlers in code represent, over the tables of frames.
use Rattle.std.specs.Prelude.{◌≡◌, ℕ, Bool, List, [], map, reverse, Option, Some, None, option_map}
use Rattle.type_terms.specs.Promised.Handles.{Entry}
use Rattle.infer_table.specs.declared.terms.Equation as Code
use Rattle.infer_table.specs.Canonical.{CanonicalForm}
use Rattle.infer_table.specs.declared.certainty.TypingMode.{TypingMode}
use Rattle.infer_table.specs.declared.input.CanonicalInput.{CanonicalInput}
use Rattle.infer_table.specs.Inputs.{form_of}
use Rattle.infer_table.specs.Constraints.{constraints_trees}
use Rattle.infer_table.specs.declared.goal.Goal.{Goal}
use Rattle.infer_table.specs.declared.response.CanonicalResponse.{CanonicalResponse}
use Rattle.infer_table.specs.Goals.{goal_trees}
use Rattle.infer_table.specs.Values.{value_of}
use Rattle.infer_table.specs.Responses.{AnswerTrees, answer_trees}
use Rattle.goal_evaluator.specs.declared.candidate.CandidateSource.{CandidateSource}
use Rattle.goal_evaluator.specs.declared.candidate.CandidateSpec.{CandidateSpec}
use Rattle.goal_evaluator.specs.declared.candidate.Considered as InCode
use Rattle.goal_evaluator.specs.declared.candidate.HandlerStep.{HandlerStep}
use Rattle.goal_evaluator.specs.declared.candidate.HandlerStep.TheVariants.{Consider, Answer, NoSolution}
use Rattle.goal_evaluator.specs.declared.goal.GoalSource.{GoalSource}
use Rattle.goal_evaluator.specs.Candidate.{Spec, Considered, Next, consider, answer, IsHistory}
use Rattle.goal_evaluator.specs.Handler.{Handled}
use Rattle.goal_evaluator.specs.Readings.{is_coinductive_step}
use Rattle.goal_evaluator.specs.Table.{workings}
use Rattle.goal_evaluator.specs.FrameTables.{Nested, Equation}
use Rattle.goal_evaluator.specs.Tables.{frame_tables}

abbrev pub equation_read : List Entry → Code.Equation → Equation
equation_read es e = record { left = value_of es e.left; right = value_of es e.right }

-- a nested goal of a goal whose trait is coinductive or not
abbrev pub nested_read : List Entry → Bool → GoalSource × Goal → Nested
nested_read es coinductive n = record { goal = goal_trees es n.1; coinductive = is_coinductive_step coinductive n.0 }

abbrev pub spec_read : List Entry → Bool → CandidateSpec → Spec (workings frame_tables)
spec_read es coinductive s = record {
  source = s.source;
  kinds = s.variables.items;
  equations = map (equation_read es) s.equations.items;
  regions = constraints_trees es s.region_constraints.items;
  nested = map (nested_read es coinductive) s.nested_goals.items;
  certainty = s.certainty;
}

abbrev pub result_read : List Entry → Option CanonicalResponse → Option AnswerTrees
result_read es r = option_map (answer_trees es) r

abbrev pub next_read : List Entry → Bool → HandlerStep → Next (workings frame_tables)
next_read es coinductive (Consider s) = consider (spec_read es coinductive s)
next_read es coinductive (Answer r ignored) = answer (Some (answer_trees es r)) ignored.items
next_read es coinductive NoSolution = answer None []

-- what a handler sees of an evaluated candidate: all but its equations, constraints and nested goals
pub record ShownCandidate : Type 0 where
  pub source : CandidateSource
  pub result : Option AnswerTrees
  pub number : ℕ

abbrev pub shown : Considered (workings frame_tables) → ShownCandidate
shown c = record { source = c.spec.source; result = c.response; number = c.number }

abbrev pub shown_by : List Entry → InCode.Considered → ShownCandidate
shown_by es d = record { source = d.source; result = result_read es d.result; number = d.head_usages }

-- the list, the oldest first, shows this history, the newest first
abbrev pub Shows : List ShownCandidate → List (Considered (workings frame_tables)) → Type 0
Shows xs seen = xs ≡ reverse (map shown seen)

-- ---- the meaning of a handler for a goal, and its requests
-- its meaning for the goal, in the goal's typing mode
abbrev pub handled_for : {Handler Meaning : Type 0} → (Meaning → TypingMode → CanonicalForm → Handled frame_tables) → (Handler → List Entry → Meaning) → Handler → List Entry → CanonicalInput → Handled frame_tables
handled_for handled meaning handler es goal = handled (meaning handler es) goal.mode (form_of es goal)

-- some history of the goal shows these candidates
abbrev pub HasHistory : List Entry → Handled frame_tables → List InCode.Considered → Type 0
HasHistory es h done = (seen : List (Considered (workings frame_tables))) × Shows (map (shown_by es) done) seen × IsHistory (workings frame_tables) h.next seen

-- the step is the next request after each history that shows these candidates
abbrev pub IsNextAfter : List Entry → Handled frame_tables → List InCode.Considered → List Entry → HandlerStep → Type 0
IsNextAfter old h done new s =
    (seen : List (Considered (workings frame_tables))) → Shows (map (shown_by old) done) seen → IsHistory (workings frame_tables) h.next seen → next_read new h.coinductive s ≡ h.next seen
