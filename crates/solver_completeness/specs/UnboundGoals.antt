-- Goals without bound variables. Their nested goals have none either.
use Rattle.std.specs.Prelude.{◌≡◌, Bool, true, not, Some}
use Rattle.type_terms.specs.Promised.Trees.{some_node}
use Rattle.type_terms.specs.Promised.Worlds.{World}
use Rattle.infer_table.specs.Canonical.{CanonicalForm}
use Rattle.infer_table.specs.declared.certainty.TypingMode.{TypingMode}
use Rattle.goal_evaluator.specs.Lists.{Every}
use Rattle.goal_evaluator.specs.Content.{Values, NestedQuestion}
use Rattle.goal_evaluator.specs.FrameTables.{kinds_known}
use Rattle.goal_evaluator.specs.TableOperations.{begin}
use Rattle.goal_evaluator.specs.Tables.{frame_tables}
use Rattle.solver_completeness.specs.Closed.{AsksSuch}
use Rattle.solver_completeness.specs.ClosedTables.{AreClosed, closed_tables}
use Rattle.candidate_model.specs.DeclaredWell.{IsDeclaredWell}
use Rattle.candidate_model.specs.Meaning.{ViewMeaning}
use Rattle.candidate_model.specs.Asking.{GoalOverKinds, goal_over_kinds}
use Rattle.candidate_model.proofs.Instances.{is_bound}
use Rattle.solver_completeness.specs.SolverGoals.{specs_by}
use Rattle.solver_completeness.specs.GoalSets.{FitsAreKept}
use Rattle.solver_completeness.specs.FormedFacts.{Sorts, IsFormedFact, FitsSorts}

-- no bound variable occurs in the goal's trait reference
abbrev pub is_unbound : CanonicalForm → Bool
is_unbound f = not (some_node is_bound f.goal.predicate)

-- in a well-formed view, all nested goals of such a goal without inference variables are such goals, in both typing modes
abbrev pub UnboundAreKept : Type 0
UnboundAreKept =
    (m : ViewMeaning) (mode : TypingMode) → IsDeclaredWell m.view → (q : NestedQuestion) (v : Values) → AreClosed q.form.kinds → (a : GoalOverKinds) → goal_over_kinds m.view q.form ≡ Some a → is_unbound q.form ≡ true
    → Every (AsksSuch frame_tables closed_tables (λ (p : NestedQuestion) (u : Values). is_unbound p.form ≡ true) (begin (kinds_known q.form.kinds)) v) (specs_by m mode a)

-- ---- tests of forms that depend only on names and kinds
-- decided goals fit if they have no bound variables and their terms have the declared kinds
abbrev pub FitsBySorts : World → Sorts → (CanonicalForm → Bool) → Type 0
FitsBySorts V sorts fits = (f : CanonicalForm) (a : GoalOverKinds) → goal_over_kinds V f ≡ Some a → is_unbound f ≡ true → FitsSorts V sorts a.reference → fits f ≡ true

-- goals with well-formed facts and without bound variables fit, and so do their nested goals
abbrev pub UnboundAreAdmitted : Type 0
UnboundAreAdmitted =
    (m : ViewMeaning) (mode : TypingMode) (fits : CanonicalForm → Bool) (sorts : Sorts) → IsDeclaredWell m.view → FitsBySorts m.view sorts fits
    → FitsAreKept m mode fits is_unbound (IsFormedFact m.view sorts)
