-- Sets of goals without inference variables that are closed under nested goals: decided goals with facts of a set that is closed
-- under premises.
use Rattle.std.specs.Prelude.{◌≡◌, ◌==◌, Bool, true, false, ◌||◌, not, Some}
use Rattle.type_terms.specs.Promised.Label.{Label, of_type}
use Rattle.type_terms.specs.Promised.Trees.{Trees, none, tree, is_sort, sort_of}
use Rattle.type_terms.specs.Promised.Worlds.{World}
use Rattle.type_terms.specs.Promised.Rules.{unsize}
use Rattle.type_terms.specs.Promised.Answers.{written_in}
use Rattle.type_terms.specs.Made.{terms, is_made}
use Rattle.infer_table.specs.Canonical.{CanonicalForm}
use Rattle.infer_table.specs.declared.certainty.TypingMode.{TypingMode}
use Rattle.goal_evaluator.specs.Lists.{Every}
use Rattle.goal_evaluator.specs.Content.{Values, Fact, NestedQuestion, fact_of}
use Rattle.goal_evaluator.specs.FrameTables.{kinds_known}
use Rattle.goal_evaluator.specs.TableOperations.{begin}
use Rattle.goal_evaluator.specs.Tables.{frame_tables}
use Rattle.solver_completeness.specs.Closed.{AsksSuch}
use Rattle.solver_completeness.specs.ClosedTables.{AreClosed, ArePlaces, closed_tables}
use Rattle.candidate_model.specs.Facts.{reference_in}
use Rattle.candidate_model.specs.DeclaredWell.{IsDeclaredWell}
use Rattle.candidate_model.specs.Meaning.{ViewMeaning}
use Rattle.candidate_model.specs.Asking.{GoalOverKinds, goal_over_kinds, next_of}
use Rattle.solver_completeness.specs.SolverGoals.{specs_by, ways_by, IsGoal, AreGoals}

-- the first of the terms is a type
abbrev pub begins_typed : Trees → Bool
begins_typed none = false
begins_typed (tree l c o) = is_sort (sort_of l) of_type

abbrev pub any_label : Label → Bool
any_label l = true

-- the fact's terms are well-formed over names of the view, and the self type is a type, as is the target of `Unsize`
pub record IsAskableFact (V : World) (f : Fact) : Type 0 where
  pub goal : IsGoal V f
  pub made : is_made any_label terms (reference_in f).args ≡ true
  pub written : written_in V (reference_in f) ≡ true
  pub begins : begins_typed (reference_in f).args ≡ true
  pub target : (not ((reference_in f).trait == unsize) || begins_typed (next_of (reference_in f).args)) ≡ true

-- facts with the property P can be goals, and their premises have it too
pub record IsGoalSet (m : ViewMeaning) (mode : TypingMode) (P : Fact → Type 0) : Type 0 where
  pub askable : (f : Fact) → P f → IsAskableFact m.view f
  pub kept : (f : Fact) → P f → Every (Every P) (ways_by m mode f)

-- the decided canonical goals of such facts that are admitted
pub record IsGoalOf (V : World) (admits : CanonicalForm → Bool) (P : Fact → Type 0) (q : NestedQuestion) (v : Values) : Type 0 where
  pub form : GoalOverKinds
  pub decided : goal_over_kinds V q.form ≡ Some form
  pub admitted : admits q.form ≡ true
  pub of_fact : P (fact_of q v)

-- nested goals of such a goal are admitted, and such goals fit the declarations
pub record FitsAreKept (m : ViewMeaning) (mode : TypingMode) (fits admits : CanonicalForm → Bool) (P : Fact → Type 0) : Type 0 where
  pub fitting : (q : NestedQuestion) (v : Values) → IsGoalOf m.view admits P q v → fits q.form ≡ true
  pub kept : (q : NestedQuestion) (v : Values) → IsGoalOf m.view admits P q v → AreClosed q.form.kinds → ArePlaces q.form.kinds v → (a : GoalOverKinds) → goal_over_kinds m.view q.form ≡ Some a
      → Every (AsksSuch frame_tables closed_tables (λ (p : NestedQuestion) (u : Values). admits p.form ≡ true) (begin (kinds_known q.form.kinds)) v) (specs_by m mode a)

-- these canonical goals are closed under nested goals, in each typing mode that preserves facts and admission
abbrev pub GoalsLeadToGoals : (Fact → Type 0) → Type 0
GoalsLeadToGoals P =
    (m : ViewMeaning) (mode : TypingMode) (fits admits : CanonicalForm → Bool) → IsDeclaredWell m.view → IsGoalSet m mode P → FitsAreKept m mode fits admits P
    → AreGoals m mode fits (IsGoalOf m.view admits P)
