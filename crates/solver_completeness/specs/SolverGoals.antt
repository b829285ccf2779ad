-- The goals without inference variables for which the solver is complete: their nested goals, and sets that are closed under
-- nested goals.
use Rattle.std.specs.Prelude.{◌≡◌, ℕ, zero, suc, Bool, true, List, Some}
use Rattle.type_terms.specs.Promised.Worlds.{World}
use Rattle.type_terms.specs.Promised.Proofs.{HasProof}
use Rattle.infer_table.specs.Canonical.{CanonicalForm}
use Rattle.infer_table.specs.declared.certainty.TypingMode.{TypingMode}
use Rattle.infer_table.specs.declared.certainty.TypingMode.TheVariants.{Coherence, PostAnalysis}
use Rattle.goal_evaluator.specs.Lists.{Every}
use Rattle.goal_evaluator.specs.Content.{Values, Fact, NestedQuestion, fact_of}
use Rattle.goal_evaluator.specs.FrameTables.{kinds_known}
use Rattle.goal_evaluator.specs.TableOperations.{begin}
use Rattle.goal_evaluator.specs.Tables.{frame_tables}
use Rattle.solver_completeness.specs.Closed.{AsksSuch}
use Rattle.solver_completeness.specs.ClosedTables.{AreClosed, ArePlaces, closed_tables}
use Rattle.candidate_model.specs.Facts.{clauses_of, reference_in, is_plain}
use Rattle.candidate_model.specs.Meaning.{ViewMeaning}
use Rattle.candidate_model.specs.Asking.{GoalOverKinds, goal_over_kinds}
use Rattle.candidate_model.specs.Candidates.{Candidate}
use Rattle.solver_completeness.specs.SolverWays.{ways_outside, ways_in_coherence}
use Rattle.solver_completeness.specs.SolverPlans.{specs_in_coherence, specs_outside}
use Rattle.solver_completeness.specs.RowWays.{autos_stand_once}
use Rattle.solver_completeness.specs.SolverChoices.{IsElaborated}

-- the candidates and the rule instances in each typing mode
abbrev pub specs_by : ViewMeaning → TypingMode → GoalOverKinds → List Candidate
specs_by m Coherence a = specs_in_coherence m a
specs_by m PostAnalysis a = specs_outside m a

abbrev pub ways_by : ViewMeaning → TypingMode → Fact → List (List Fact)
ways_by m Coherence f = ways_in_coherence m f
ways_by m PostAnalysis f = ways_outside m.view f

-- the fact's trait reference has a proof by the rules of the view, with the fact's where-clauses
abbrev pub FactIsProved : World → Fact → Type 0
FactIsProved V f = HasProof V (clauses_of f.goal.environment) (reference_in f)

-- a fact without lifetimes, in which no auto trait occurs twice in a `dyn`, and whose where-clauses are elaborated
pub record IsGoal (V : World) (f : Fact) : Type 0 where
  pub plain : is_plain f ≡ true
  pub once : autos_stand_once (reference_in f).args ≡ true
  pub elaborated : IsElaborated V (clauses_of f.goal.environment)

-- A set of canonical goals, with values of their placeholders, that is closed under nested goals. Each is decided and fits the
-- declarations, and its instance is such a fact. If the equations of its candidates hold, their nested goals are in the set.
pub record AreGoals (m : ViewMeaning) (mode : TypingMode) (fits : CanonicalForm → Bool) (IsAsked : NestedQuestion → Values → Type 0) : Type 0 where
  pub decided : (q : NestedQuestion) (v : Values) → IsAsked q v → (a : GoalOverKinds) × (goal_over_kinds m.view q.form ≡ Some a)
  pub fitting : (q : NestedQuestion) (v : Values) → IsAsked q v → fits q.form ≡ true
  pub goals : (q : NestedQuestion) (v : Values) → IsAsked q v → IsGoal m.view (fact_of q v)
  pub onward : (q : NestedQuestion) (v : Values) → IsAsked q v → AreClosed q.form.kinds → ArePlaces q.form.kinds v
      → (a : GoalOverKinds) → goal_over_kinds m.view q.form ≡ Some a → Every (AsksSuch frame_tables closed_tables IsAsked (begin (kinds_known q.form.kinds)) v) (specs_by m mode a)

-- The canonical goal fits and is decided, and its instance is such a fact. The same holds, for n steps, of the nested goals of
-- candidates whose equations hold.
abbrev pub IsGoodFor : ViewMeaning → TypingMode → (CanonicalForm → Bool) → ℕ → NestedQuestion → Values → Type 0
IsGoodFor m mode fits zero q v = Unit {0}
IsGoodFor m mode fits (suc n) q v =
    (fits q.form ≡ true)
    × IsGoal m.view (fact_of q v)
    × ((a : GoalOverKinds) × (goal_over_kinds m.view q.form ≡ Some a) × Every (AsksSuch frame_tables closed_tables (IsGoodFor m mode fits n) (begin (kinds_known q.form.kinds)) v) (specs_by m mode a))

-- for any number of steps
abbrev pub LeadsToGoals : ViewMeaning → TypingMode → (CanonicalForm → Bool) → NestedQuestion → Values → Type 0
LeadsToGoals m mode fits q v = (n : ℕ) → IsGoodFor m mode fits n q v

-- the canonical goals that lead only to such goals are a set that is closed under nested goals
abbrev pub LeadingAreGoals : Type 0
LeadingAreGoals = (m : ViewMeaning) (mode : TypingMode) (fits : CanonicalForm → Bool) → AreGoals m mode fits (LeadsToGoals m mode fits)
