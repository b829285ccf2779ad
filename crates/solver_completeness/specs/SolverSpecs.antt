-- The solver's candidates for goals without inference variables: what they determine, their number, and their certainty.
use Rattle.std.specs.Prelude.{◌≡◌, ◌≤◌, List, length, Some}
use Rattle.infer_table.specs.Canonical.{CanonicalForm}
use Rattle.infer_table.specs.declared.certainty.Certainty.TheVariants.{Yes}
use Rattle.goal_evaluator.specs.Lists.{Every}
use Rattle.goal_evaluator.specs.FrameTables.{kinds_known}
use Rattle.goal_evaluator.specs.TableOperations.{begin}
use Rattle.goal_evaluator.specs.Tables.{frame_tables}
use Rattle.solver_completeness.specs.Closed.{DeterminesNested}
use Rattle.solver_completeness.specs.ClosedTables.{AreClosed}
use Rattle.candidate_model.specs.Meaning.{ViewMeaning}
use Rattle.candidate_model.specs.DeclaredWell.{IsDeclaredWell}
use Rattle.candidate_model.specs.Asking.{GoalOverKinds, goal_over_kinds}
use Rattle.candidate_model.specs.Candidates.{Candidate}
use Rattle.candidate_model.specs.Solver.{most_candidates}
use Rattle.solver_completeness.specs.SolverPlans.{specs_in_coherence, specs_outside}

-- the goal determines the nested goals of each candidate, whatever its certainty
abbrev pub AreDetermined : CanonicalForm → List Candidate → Type 0
AreDetermined f specs = Every (DeterminesNested frame_tables (begin (kinds_known f.kinds))) specs

abbrev pub AreFew : ViewMeaning → CanonicalForm → List Candidate → Type 0
AreFew m f specs = length specs ≤ most_candidates m.view f

-- in both typing modes
abbrev pub SpecsAreDetermined : Type 0
SpecsAreDetermined = (m : ViewMeaning) → IsDeclaredWell m.view → (f : CanonicalForm) (a : GoalOverKinds) → goal_over_kinds m.view f ≡ Some a → AreDetermined f (specs_in_coherence m a) × AreDetermined f (specs_outside m a)

abbrev pub SpecsAreFew : Type 0
SpecsAreFew = (m : ViewMeaning) → IsDeclaredWell m.view → (f : CanonicalForm) (a : GoalOverKinds) → goal_over_kinds m.view f ≡ Some a → AreFew m f (specs_in_coherence m a) × AreFew m f (specs_outside m a)

-- outside coherence no candidate is `Maybe` by itself
abbrev pub SpecsAreSure : Type 0
SpecsAreSure = (m : ViewMeaning) (f : CanonicalForm) (a : GoalOverKinds) → goal_over_kinds m.view f ≡ Some a → AreClosed f.kinds → Every (λ (c : Candidate). c.certainty ≡ Yes) (specs_outside m a)
