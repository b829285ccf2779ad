-- In coherence, a candidate that was considered before the answer realizes each solution of a goal, by the view and in every linked set
-- with the crate.
use Rattle.std.specs.Prelude.{◌≡◌, ℕ, suc, ◌≤◌, Bool, true, List, ◌∷◌, length, Option, Some}
use Rattle.type_terms.specs.Promised.Worlds.{World}
use Rattle.infer_table.specs.Canonical.{CanonicalForm}
use Rattle.infer_table.specs.declared.certainty.TypingMode.TheVariants.{Coherence}
use Rattle.infer_table.specs.Responses.{AnswerTrees}
use Rattle.goal_evaluator.specs.Lists.{Every, SomeOf}
use Rattle.goal_evaluator.specs.Table.{workings}
use Rattle.goal_evaluator.specs.Candidate.{Considered, answer, IsHistory}
use Rattle.goal_evaluator.specs.Law.{Realizes}
use Rattle.goal_evaluator.specs.Handler.{Handled, IsHandler}
use Rattle.goal_evaluator.specs.Content.{Values}
use Rattle.goal_evaluator.specs.Tables.{frame_tables}
use Rattle.goal_evaluator.specs.Handler.{CandidateIsLawful}
use Rattle.goal_evaluator.specs.Plans.{nested_in}
use Rattle.goal_evaluator.specs.Merge.{IsTest, TellsResponsesApart}
use Rattle.candidate_model.specs.Meaning.{ViewMeaning}
use Rattle.candidate_model.specs.Lifetimes.{GivesLifetimes}
use Rattle.candidate_model.specs.Declared.{is_declared_view, BoundsAreErased, LeadDown}
use Rattle.candidate_model.specs.Determined.{ImplsAreDetermined}
use Rattle.candidate_model.specs.Asking.{GoalOverKinds, goal_over_kinds}
use Rattle.candidate_model.specs.Candidates.{unknowable}
use Rattle.candidate_model.specs.Solver.{solver_handled}
use Rattle.candidate_model.specs.Cover.{BoundsAreTerms, all_candidates}

-- The law `cover` of answers, for all answers of a handler.
abbrev pub AnswersCover : Handled frame_tables → Type 0
AnswersCover h =
    (seen : List (Considered (workings frame_tables))) (a : Option AnswerTrees) (ignored : List ℕ) → IsHistory (workings frame_tables) h.next seen → h.next seen ≡ answer a ignored
    → (w : h.World) (v : Values) → h.Proves w (h.goal v) → SomeOf (λ (c : Considered (workings frame_tables)). Realizes frame_tables (h.Proves w) h.begin v c.spec) seen

-- The bounds of `dyn` types in goals that are decided are well-formed terms.
abbrev pub BoundsAreLeft : ViewMeaning → Type 0
BoundsAreLeft m = (f : CanonicalForm) (a : GoalOverKinds) → goal_over_kinds m.view f ≡ Some a → BoundsAreTerms m.view a

-- They are, if no lifetime parameter occurs in the bounds of traits.
abbrev pub ErasedBoundsAreLeft : Type 0
ErasedBoundsAreLeft = (m : ViewMeaning) → is_declared_view m.view ≡ true → BoundsAreErased m.view → BoundsAreLeft m

-- What must hold of declarations that pass the tests. All but the last clause is about the view alone.
pub record IsAsMeant (m : ViewMeaning) : Type 0 where
  pub declared : is_declared_view m.view ≡ true
  pub determined : ImplsAreDetermined m.view
  pub erased : BoundsAreErased m.view
  pub rank : ℕ → ℕ
  pub acyclic : LeadDown m.view rank
  pub bounds : BoundsAreLeft m

abbrev pub CoherenceIsCovered : Type 0
CoherenceIsCovered =
    (applicable : AnswerTrees → Bool) (same : AnswerTrees → AnswerTrees → Bool) (m : ViewMeaning) → (m.is_sound ≡ true → IsAsMeant m)
    → (f : CanonicalForm) → GivesLifetimes m f → AnswersCover (solver_handled applicable same m Coherence f)

-- The candidates of a goal that is decided satisfy the laws. The numbers of candidates and of nested goals are within the handler's bounds.
pub record DecidedCandidatesAreLawful (h : Handled frame_tables) (V : World) (a : GoalOverKinds) : Type 0 where
  pub each : Every (CandidateIsLawful frame_tables h) (unknowable V a ∷ all_candidates V a)
  pub few : suc (length (all_candidates V a)) ≤ h.candidates
  pub asks : nested_in frame_tables (unknowable V a ∷ all_candidates V a) ≤ h.number

-- In coherence the handler satisfies the laws, if its candidates do and their numbers are within its bounds.
abbrev pub CoherenceIsLawful : Type 0
CoherenceIsLawful =
    (applicable : AnswerTrees → Bool) (same : AnswerTrees → AnswerTrees → Bool) → IsTest frame_tables applicable → TellsResponsesApart same
    → (m : ViewMeaning) → (m.is_sound ≡ true → IsAsMeant m)
    → (f : CanonicalForm) → GivesLifetimes m f → ((a : GoalOverKinds) → goal_over_kinds m.view f ≡ Some a → DecidedCandidatesAreLawful (solver_handled applicable same m Coherence f) m.view a)
    → IsHandler frame_tables (solver_handled applicable same m Coherence f)
