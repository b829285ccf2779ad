-- The order in which the solver evaluates the candidates of a goal without inference variables, and its merge of their responses.
use Rattle.std.specs.Prelude.{◌≡◌, ℕ, Bool, true, List, [], ◌∷◌, ◌++◌, Option, Some, if◌then◌else◌}
use Rattle.infer_table.specs.Canonical.{CanonicalForm}
use Rattle.infer_table.specs.Responses.{AnswerTrees}
use Rattle.infer_table.specs.declared.certainty.TypingMode.TheVariants.{Coherence, PostAnalysis}
use Rattle.goal_evaluator.specs.Candidate.{consider, answer}
use Rattle.goal_evaluator.specs.Handler.{Handled}
use Rattle.goal_evaluator.specs.Tables.{frame_tables}
use Rattle.solver_completeness.specs.ClosedTables.{AreClosed}
use Rattle.solver_completeness.specs.Exact.{WereConsidered, GoesTo, IsMadeOfResponses}
use Rattle.candidate_model.specs.Meaning.{ViewMeaning}
use Rattle.candidate_model.specs.Knowing.{is_knowable}
use Rattle.candidate_model.specs.Asking.{GoalOverKinds, goal_over_kinds, clauses}
use Rattle.candidate_model.specs.Candidates.{Candidate, unknowable, by_clauses, built_in, by_impls, by_objects}
use Rattle.candidate_model.specs.Cover.{all_candidates}
use Rattle.candidate_model.specs.Solver.{SolverPast, solver_handled}

-- the candidates of a goal in coherence: the first is that for trait references that are not knowable, if this one is not
abbrev pub specs_in_coherence : ViewMeaning → GoalOverKinds → List Candidate
specs_in_coherence m a = if is_knowable m.view m.crate a.reference then all_candidates m.view a else unknowable m.view a ∷ all_candidates m.view a

-- outside coherence: where-clauses and built-in rules, then impls and object bounds
abbrev pub specs_outside : ViewMeaning → GoalOverKinds → List Candidate
specs_outside m a = (by_clauses m.view a (clauses a) ++ built_in m.view a) ++ (by_impls m.view a m.view.impls ++ by_objects m.view a)

-- The handler evaluates these in order, and its result is made of the responses. It leaves candidates out only if some candidate
-- has a response.
pub record GoesThrough (h : Handled frame_tables) (specs : List Candidate) : Type 0 where
  pub left : SolverPast → List Candidate
  pub all : left [] ≡ specs
  pub considers : (seen : SolverPast) (c : Candidate) → WereConsidered frame_tables h.next seen → h.next seen ≡ consider c → GoesTo frame_tables left seen c
  pub makes : (seen : SolverPast) (a : Option AnswerTrees) (ignored : List ℕ) → WereConsidered frame_tables h.next seen → h.next seen ≡ answer a ignored → IsMadeOfResponses frame_tables (left seen) seen a

-- each decided goal without inference variables is handled in this way, in both typing modes
pub record SolverGoesThrough (applicable : AnswerTrees → Bool) (same : AnswerTrees → AnswerTrees → Bool) (m : ViewMeaning) (f : CanonicalForm) (a : GoalOverKinds) : Type 0 where
  pub in_coherence : GoesThrough (solver_handled applicable same m Coherence f) (specs_in_coherence m a)
  pub outside : GoesThrough (solver_handled applicable same m PostAnalysis f) (specs_outside m a)

abbrev pub PlansAreExact : Type 0
PlansAreExact =
    (applicable : AnswerTrees → Bool) (same : AnswerTrees → AnswerTrees → Bool) (m : ViewMeaning) → m.is_sound ≡ true
    → (f : CanonicalForm) (a : GoalOverKinds) → goal_over_kinds m.view f ≡ Some a → AreClosed f.kinds → SolverGoesThrough applicable same m f a
