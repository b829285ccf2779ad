-- What the solver's laws rest on: that candidates are sound, narrow and few, and that their equations are of terms.
use Rattle.std.specs.Prelude.{◌≡◌, ℕ, suc, ◌≤◌, ◌==◌, Bool, true, false, List, ◌∷◌, ◌++◌, length, Some}
use Rattle.type_terms.specs.Promised.Rules.{unsize, unsize_to_dyn_rules}
use Rattle.infer_table.specs.Canonical.{CanonicalForm}
use Rattle.infer_table.specs.declared.certainty.TypingMode.{TypingMode}
use Rattle.infer_table.specs.Responses.{AnswerTrees}
use Rattle.goal_evaluator.specs.Lists.{Every}
use Rattle.goal_evaluator.specs.Handler.{IsHandler}
use Rattle.goal_evaluator.specs.Widths.{EquationWithin, NestedWithin}
use Rattle.goal_evaluator.specs.Tables.{frame_tables}
use Rattle.goal_evaluator.specs.Plans.{nested_in}
use Rattle.goal_evaluator.specs.Merge.{IsTest, TellsResponsesApart}
use Rattle.candidate_model.specs.Meaning.{ViewMeaning}
use Rattle.candidate_model.specs.Lifetimes.{GivesLifetimes}
use Rattle.candidate_model.specs.Asking.{GoalOverKinds, goal_over_kinds, self_of, begins_unknown}
use Rattle.candidate_model.specs.Candidates.{Candidate, unknowable, built_in, misc, if_so, as_written, upcasts_of, by_impls, by_objects}
use Rattle.candidate_model.specs.Declared.{is_declared_view}
use Rattle.candidate_model.specs.Determined.{ImplsAreDetermined}
use Rattle.candidate_model.specs.Solver.{solver_handled, most_candidates, widest_of}
use Rattle.candidate_model.specs.Promised.Widths.{number_at}
use Rattle.candidate_model.specs.Cover.{AreTermsOf, GivenIsRealized, all_candidates, SolutionsAreCandidates, SolutionsAloneAreCandidates}
use Rattle.candidate_model.specs.Lawful.{IsSoundFor, CandidatesAreLawful}

-- the terms of all equations are made terms
abbrev pub EquationsAreTerms : ViewMeaning → Type 0
EquationsAreTerms m = (f : CanonicalForm) (a : GoalOverKinds) → goal_over_kinds m.view f ≡ Some a → Every AreTermsOf (all_candidates m.view a)

abbrev pub IsNarrow : ℕ → Candidate → Type 0
IsNarrow n c = Every (EquationWithin n) c.equations × Every (NestedWithin n) c.nested

-- the candidates but where-clauses, of which it is proved
abbrev pub other_candidates : ViewMeaning → GoalOverKinds → List Candidate
other_candidates m a = built_in m.view a ++ (by_impls m.view a m.view.impls ++ by_objects m.view a)

-- those that are no rows: types that unsize to a `dyn`, upcasts, impls and object bounds
abbrev pub premised_candidates : ViewMeaning → GoalOverKinds → List Candidate
premised_candidates m a =
    if_so (a.reference.trait == unsize) (as_written m.view a misc (unsize_to_dyn_rules m.view (self_of a)) ++ upcasts_of m.view a (self_of a)) ++ (by_impls m.view a m.view.impls ++ by_objects m.view a)

-- where the self type is an unknown, a `dyn` may stand for it, which does not unsize to another as other types do
abbrev pub CandidatesAreSound : ViewMeaning → Type 0
CandidatesAreSound m = (f : CanonicalForm) (a : GoalOverKinds) → goal_over_kinds m.view f ≡ Some a → begins_unknown a.kinds (self_of a) ≡ false → Every (IsSoundFor m f a) (premised_candidates m a)

-- no term of the candidates but where-clauses is wider than the goal and what is declared
abbrev pub CandidatesAreNarrow : ViewMeaning → Type 0
CandidatesAreNarrow m = (f : CanonicalForm) (a : GoalOverKinds) → goal_over_kinds m.view f ≡ Some a → Every (IsNarrow (widest_of m.view f)) (unknowable m.view a ∷ other_candidates m a)

abbrev pub SoundAndNarrowIsLawful : Type 0
SoundAndNarrowIsLawful = (m : ViewMeaning) → is_declared_view m.view ≡ true → ImplsAreDetermined m.view → CandidatesAreSound m → CandidatesAreNarrow m → CandidatesAreLawful m

-- there are not too many candidates, and they have not too many nested goals together
abbrev pub CandidatesAreFew : ViewMeaning → Type 0
CandidatesAreFew m = (f : CanonicalForm) (a : GoalOverKinds) → goal_over_kinds m.view f ≡ Some a → suc (length (all_candidates m.view a)) ≤ most_candidates m.view f

abbrev pub PremisesAreFew : ViewMeaning → Type 0
PremisesAreFew m = (f : CanonicalForm) (a : GoalOverKinds) → goal_over_kinds m.view f ≡ Some a → nested_in frame_tables (unknowable m.view a ∷ all_candidates m.view a) ≤ number_at m.view (widest_of m.view f)

-- what is premised of what is declared; each is a property of the view alone, but for the first two
pub record SolverPremises (m : ViewMeaning) : Type 0 where
  -- the candidates' values are allowed by tables
  pub realized : GivenIsRealized
  -- solutions are by candidates (`SolutionsAreByCandidates` gives it from a declared view, determined impls and the left rows)
  pub covers : m.is_sound ≡ true → SolutionsAreCandidates m
  pub covers_alone : m.is_sound ≡ true → SolutionsAloneAreCandidates m
  pub terms : m.is_sound ≡ true → EquationsAreTerms m
  pub lawful : m.is_sound ≡ true → CandidatesAreLawful m
  pub few : m.is_sound ≡ true → CandidatesAreFew m
  pub asks : m.is_sound ≡ true → PremisesAreFew m

-- the solver is a lawful handler
abbrev pub SolverIsLawful : Type 0
SolverIsLawful =
    (applicable : AnswerTrees → Bool) → IsTest frame_tables applicable → (same : AnswerTrees → AnswerTrees → Bool) → TellsResponsesApart same
    → (m : ViewMeaning) → SolverPremises m → (mode : TypingMode) (f : CanonicalForm) → GivesLifetimes m f → IsHandler frame_tables (solver_handled applicable same m mode f)
