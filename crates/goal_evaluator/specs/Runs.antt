-- Runs of an evaluation, in terms of an interner's handles.
use Rattle.std.specs.Prelude.{◌≡◌, ℕ, List, [], ◌∷◌, map, Option, option_map}
use Rattle.type_terms.specs.Promised.Trees.{Trees}
use Rattle.type_terms.specs.Promised.Handles.{Entry}
use Rattle.type_terms.specs.declared.kinds.GenericArgKind.{GenericArgKind}
use Rattle.type_terms.specs.Kinds.{args_trees}
use Rattle.infer_table.specs.Constraints.{constraints_trees}
use Rattle.infer_table.specs.Content.{Table}
use Rattle.infer_table.specs.Responses.{AnswerTrees, answer_trees}
use Rattle.infer_table.specs.Unification.{TableTrees, table_trees, Worklist}
use Rattle.infer_table.specs.Values.{values_of, filled_values}
use Rattle.infer_table.specs.Worklists.{equation_trees}
use Rattle.infer_table.specs.declared.certainty.Certainty.{Certainty}
use Rattle.infer_table.specs.declared.certainty.TypingMode.{TypingMode}
use Rattle.infer_table.specs.declared.goal.Goal.{Goal}
use Rattle.infer_table.specs.declared.input.CanonicalInput.{CanonicalInput}
use Rattle.infer_table.specs.declared.response.CanonicalResponse.{CanonicalResponse}
use Rattle.infer_table.specs.declared.terms.Equation.{Equation}
use Rattle.infer_table.specs.declared.terms.RegionConstraint.{RegionConstraint}
use Rattle.goal_evaluator.specs.declared.TheConstants.{FIXPOINT_STEP_LIMIT}
use Rattle.goal_evaluator.specs.declared.candidate.CandidateSpec.{CandidateSpec}
use Rattle.goal_evaluator.specs.declared.goal.GoalSource.{GoalSource}
use Rattle.goal_evaluator.specs.declared.merge.MergeCandidateInfo.{MergeCandidateInfo}
use Rattle.goal_evaluator.specs.declared.trial.Trial.{Trial}
use Rattle.goal_evaluator.specs.Context.{Context}
use Rattle.goal_evaluator.specs.Evaluating.{AskedQuestion, NestedTrees, goals_trees, replies_trees, put_into, evaluation}
use Rattle.goal_evaluator.specs.Frames.{begun, pair_filled, nested_filled}
use Rattle.goal_evaluator.specs.OwnAnswers.{answer_of}
use Rattle.goal_evaluator.specs.Replays.{Run, run}
use Rattle.goal_evaluator.specs.Responses.{content}
use Rattle.goal_evaluator.specs.Rounds.{Round, Rounds, round, rounds}
use Rattle.goal_evaluator.specs.Trial.{equations_trees, premises_trees, spec_trees, asked_in_rounds, candidate}
use Rattle.goal_evaluator.specs.TrialEnds.{trial_trees}

-- a run with replies, to an end that may be `None`
abbrev pub RunTo : Type 0 → Type 0
RunTo X = Run AskedQuestion (Option AnswerTrees) (Option X)

-- ---- rounds
-- a round of these goals in a table, with these replies
abbrev pub round_of : (mode : TypingMode) → List Entry → List (GoalSource × Goal) → Table → List (Option CanonicalResponse) → RunTo (Round (evaluation mode))
round_of mode es goals t replies = run (round (evaluation mode) (premises_trees es goals) (table_trees es t)) (replies_trees es replies)

-- at most `limit` rounds
abbrev pub rounds_of : (mode : TypingMode) → ℕ → List Entry → List (GoalSource × Goal) → Table → List (Option CanonicalResponse) → RunTo (Rounds (evaluation mode))
rounds_of mode limit es goals t replies = run (rounds (evaluation mode) limit (premises_trees es goals) (table_trees es t)) (replies_trees es replies)

-- the rounds of a context's own goals
abbrev pub own_rounds : List Entry → (c : Context) → RunTo (Rounds (evaluation c.mode))
own_rounds es c = run (rounds (evaluation c.mode) FIXPOINT_STEP_LIMIT (goals_trees es c.nested) (table_trees es c.table)) (replies_trees es c.replies)

-- ---- responses
-- the table with a response to a goal with these values applied, or `None` if that fails
abbrev pub with_response : List Entry → Table → List GenericArgKind → CanonicalResponse → Option TableTrees
with_response es t values r = put_into (table_trees es t) (values_of es values) (answer_trees es r)

-- the context's own response with this certainty
abbrev pub own_answer : List Entry → Context → Certainty → AnswerTrees
own_answer es c certainty = answer_of c.variables (values_of es c.values) (table_trees es c.table) certainty

-- the merge equals this response, and there is none if there is no response
abbrev pub SaysAllOf : Option CanonicalResponse → Option (CanonicalResponse × MergeCandidateInfo) → Type 0
SaysAllOf r merged = option_map (λ x. content x.0) merged ≡ option_map content r

-- ---- candidates
-- a candidate of a goal, with these replies
abbrev pub candidate_of : List Entry → CanonicalInput → CandidateSpec → List (Option CanonicalResponse) → RunTo AnswerTrees
candidate_of es input s replies = run (candidate input.mode (begun input.variables.items) (spec_trees es s)) (replies_trees es replies)

-- its nested goals, after its equations and constraints
abbrev pub nested_of : List Entry → CanonicalInput → CandidateSpec → Trial → List (Option CanonicalResponse) → RunTo AnswerTrees
nested_of es input s t replies = run (asked_in_rounds input.mode (premises_trees es s.nested_goals.items) s.certainty (trial_trees es input.variables.items t)) (replies_trees es replies)

-- its terms, with the values in place of canonical variables
abbrev pub equations_filled : List Entry → List GenericArgKind → List Equation → List (Trees × Trees)
equations_filled es values equations = map (pair_filled (values_of es values)) (equations_trees es equations)

abbrev pub equation_filled : List Entry → List GenericArgKind → Equation → Worklist
equation_filled es values equation = pair_filled (values_of es values) (equation_trees es equation) ∷ []

abbrev pub constraints_filled : List Entry → List GenericArgKind → List RegionConstraint → Trees
constraints_filled es values constraints = filled_values (values_of es values) (constraints_trees es constraints)

abbrev pub premises_filled : List Entry → List GenericArgKind → List (GoalSource × Goal) → List NestedTrees
premises_filled es values goals = map (nested_filled (values_of es values)) (premises_trees es goals)

-- ---- a response
-- its terms, with the values in place of canonical variables
abbrev pub args_filled : List Entry → List GenericArgKind → List GenericArgKind → Trees
args_filled es values terms = filled_values (values_of es values) (args_trees es terms)
