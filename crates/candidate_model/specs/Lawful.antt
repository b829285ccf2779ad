-- The laws of the solver's candidates and of the solver.
use Rattle.std.specs.Prelude.{◌≡◌, ℕ, ◌==◌, Bool, true, false, List, ◌∷◌, ◌++◌, map, Some}
use Rattle.type_terms.specs.Promised.Rules.{unsize, unsize_to_dyn_rules}
use Rattle.infer_table.specs.Canonical.{CanonicalForm}
use Rattle.infer_table.specs.declared.certainty.TypingMode.{TypingMode}
use Rattle.infer_table.specs.declared.certainty.TypingMode.TheVariants.{Coherence}
use Rattle.infer_table.specs.Responses.{AnswerTrees}
use Rattle.goal_evaluator.specs.Lists.{Every}
use Rattle.goal_evaluator.specs.Handler.{IsHandler}
use Rattle.infer_table.specs.declared.certainty.Certainty.TheVariants.{Yes}
use Rattle.goal_evaluator.specs.Content.{ChosenTerms}
use Rattle.goal_evaluator.specs.FrameTables.{Allows, EquationIsMet, fact}
use Rattle.goal_evaluator.specs.TableOperations.{begin}
use Rattle.goal_evaluator.specs.TableOperations.{fresh}
use Rattle.goal_evaluator.specs.Tables.{frame_tables}
use Rattle.goal_evaluator.specs.Handler.{CandidateIsLawful}
use Rattle.goal_evaluator.specs.Merge.{IsTest, TellsResponsesApart}
use Rattle.candidate_model.specs.Meaning.{ViewMeaning}
use Rattle.candidate_model.specs.Lifetimes.{GivesLifetimes}
use Rattle.candidate_model.specs.Asking.{GoalOverKinds, goal_over_kinds, self_of, begins_unknown}
use Rattle.candidate_model.specs.Candidates.{Candidate, unknowable, by_sized, by_copy, by_auto, by_tuple, by_fn_ptr, by_call, misc, if_so, as_written, unsize_array_of, upcasts_of, unsize_struct_of, by_impls, by_objects}
use Rattle.candidate_model.specs.Facts.{FollowsByView}
use Rattle.candidate_model.specs.Declared.{is_declared_view, BoundsAreErased, parameters_are_sorted, LeadDown}
use Rattle.candidate_model.specs.Determined.{ImplsAreDetermined}
use Rattle.candidate_model.specs.DeclaredWell.{IsDeclaredWell}
use Rattle.candidate_model.specs.CoverLaw.{AnswersCover}
use Rattle.candidate_model.specs.Solver.{solver_handled}
use Rattle.candidate_model.specs.Cover.{all_candidates, goal_fact}

-- Each candidate of a goal satisfies the laws, if the self type is no inference variable.
abbrev pub CandidatesAreLawful : ViewMeaning → Type 0
CandidatesAreLawful m =
    (applicable : AnswerTrees → Bool) (same : AnswerTrees → AnswerTrees → Bool) (mode : TypingMode) (f : CanonicalForm) (a : GoalOverKinds) → goal_over_kinds m.view f ≡ Some a → begins_unknown a.kinds (self_of a) ≡ false
    → Every (CandidateIsLawful frame_tables (solver_handled applicable same m mode f)) (unknowable m.view a ∷ all_candidates m.view a)

-- If the equations of a certain candidate hold, it is a rule instance of the view.
abbrev pub IsSoundFor : ViewMeaning → CanonicalForm → GoalOverKinds → Candidate → Type 0
IsSoundFor m f a c =
    c.certainty ≡ Yes → (s : ChosenTerms) → Allows (fresh (begin a.kinds) c.kinds) s → Every (λ e. EquationIsMet e s) c.equations → FollowsByView m.view (goal_fact f s.own) (map (λ n. fact n s) c.nested)

-- The candidates by built-in rules of all traits except `Unsize`.
abbrev pub row_candidates : ViewMeaning → GoalOverKinds → List Candidate
row_candidates m a = (by_sized m.view a ++ (by_copy m.view a ++ (by_auto m.view a ++ (by_tuple m.view a ++ by_fn_ptr m.view a)))) ++ by_call m.view a

-- Each of them is sound.
abbrev pub RowsAreSound : Type 0
RowsAreSound = (m : ViewMeaning) → is_declared_view m.view ≡ true → (f : CanonicalForm) (a : GoalOverKinds) → goal_over_kinds m.view f ≡ Some a → Every (IsSoundFor m f a) (row_candidates m a)

-- The candidates by arrays that unsize to slices, and by structs whose last field unsizes.
abbrev pub unsizing_candidates : ViewMeaning → GoalOverKinds → List Candidate
unsizing_candidates m a = if_so (a.reference.trait == unsize) (unsize_array_of m.view a (self_of a) ++ unsize_struct_of m.view a (self_of a))

abbrev pub UnsizingIsSound : Type 0
UnsizingIsSound = (m : ViewMeaning) → is_declared_view m.view ≡ true → (f : CanonicalForm) (a : GoalOverKinds) → goal_over_kinds m.view f ≡ Some a → Every (IsSoundFor m f a) (unsizing_candidates m a)

-- The candidates by impls are sound, if each parameter has one kind.
abbrev pub ImplsAreSound : Type 0
ImplsAreSound =
    (m : ViewMeaning) → is_declared_view m.view ≡ true → ImplsAreDetermined m.view → parameters_are_sorted m.view ≡ true
    → (f : CanonicalForm) (a : GoalOverKinds) → goal_over_kinds m.view f ≡ Some a → Every (IsSoundFor m f a) (by_impls m.view a m.view.impls)

-- The candidates by object bounds are sound, if supertraits form no cycle.
abbrev pub ObjectBoundsAreSound : Type 0
ObjectBoundsAreSound =
    (m : ViewMeaning) → is_declared_view m.view ≡ true → BoundsAreErased m.view → (rank : ℕ → ℕ) → LeadDown m.view rank
    → (f : CanonicalForm) (a : GoalOverKinds) → goal_over_kinds m.view f ≡ Some a → Every (IsSoundFor m f a) (by_objects m.view a)

-- The candidates by which a `dyn` unsizes to another are sound.
abbrev pub UpcastsAreSound : Type 0
UpcastsAreSound =
    (m : ViewMeaning) → is_declared_view m.view ≡ true → BoundsAreErased m.view → (rank : ℕ → ℕ) → LeadDown m.view rank
    → (f : CanonicalForm) (a : GoalOverKinds) → goal_over_kinds m.view f ≡ Some a → Every (IsSoundFor m f a) (if_so (a.reference.trait == unsize) (upcasts_of m.view a (self_of a)))

-- The candidates by which any other type unsizes to a `dyn` are sound, if the self type is no inference variable. The value of a variable
-- may be a `dyn`, which unsizes to a `dyn` by another rule.
abbrev pub ToDynIsSound : Type 0
ToDynIsSound =
    (m : ViewMeaning) → is_declared_view m.view ≡ true → (f : CanonicalForm) (a : GoalOverKinds) → goal_over_kinds m.view f ≡ Some a → begins_unknown a.kinds (self_of a) ≡ false
    → Every (IsSoundFor m f a) (if_so (a.reference.trait == unsize) (as_written m.view a misc (unsize_to_dyn_rules m.view (self_of a))))

-- A view that passes the tests is declared well. If a view fails them, no goal is decided.
abbrev pub ViewIsDeclaredWell : ViewMeaning → Type 0
ViewIsDeclaredWell m = m.is_sound ≡ true → IsDeclaredWell m.view

-- If the view is declared well, its candidates satisfy the laws.
abbrev pub WellDeclaredIsLawful : Type 0
WellDeclaredIsLawful = (m : ViewMeaning) → IsDeclaredWell m.view → CandidatesAreLawful m

-- The solver satisfies the laws of handlers in both modes, for each goal whose structs have arguments for the lifetimes that their fields
-- name. In coherence the candidates that were considered before an answer cover each solution of the goal.
abbrev pub SolverIsLawfulAndCovers : Type 0
SolverIsLawfulAndCovers =
    (applicable : AnswerTrees → Bool) → IsTest frame_tables applicable → (same : AnswerTrees → AnswerTrees → Bool) → TellsResponsesApart same
    → (m : ViewMeaning) → ViewIsDeclaredWell m → (f : CanonicalForm) → GivesLifetimes m f
    → ((mode : TypingMode) → IsHandler frame_tables (solver_handled applicable same m mode f)) × AnswersCover (solver_handled applicable same m Coherence f)
