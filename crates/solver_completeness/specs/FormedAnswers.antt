-- The results of plain recursion over the solver's frames, and of a search, for decided goals with well-formed facts. Their
-- nested goals are such goals again.
use Rattle.std.specs.Prelude.{◌≡◌, ◌≤◌, ℕ, Bool, true, [], Option}
use Rattle.type_terms.specs.Promised.Worlds.{World}
use Rattle.type_terms.specs.Promised.Answers.{SingleWay, is_bounded}
use Rattle.infer_table.specs.Canonical.{CanonicalForm}
use Rattle.infer_table.specs.declared.certainty.TypingMode.{TypingMode}
use Rattle.infer_table.specs.declared.certainty.TypingMode.TheVariants.{Coherence, PostAnalysis}
use Rattle.infer_table.specs.Responses.{AnswerTrees}
use Rattle.goal_evaluator.specs.Content.{Values, NestedQuestion, fact_of}
use Rattle.goal_evaluator.specs.Tables.{frame_tables}
use Rattle.goal_frames.specs.Searches.{Handles, GoalInMode}
use Rattle.solver_completeness.specs.ClosedTables.{AreClosed, ArePlaces}
use Rattle.solver_completeness.specs.Ways.{HasShortChains, IsExactFor, IsRightFor}
use Rattle.candidate_model.specs.Facts.{clauses_of, reference_in}
use Rattle.candidate_model.specs.Meaning.{ViewMeaning}
use Rattle.candidate_model.specs.DeclaredWell.{IsDeclaredWell}
use Rattle.solver_completeness.specs.SolverGoals.{ways_by, FactIsProved}
use Rattle.solver_completeness.specs.GoalSets.{IsGoalOf, FitsAreKept}
use Rattle.solver_completeness.specs.FormedFacts.{Sorts, IsFormedFact, IsFormedView}
use Rattle.solver_completeness.specs.SolverAnswers.{solver_programs, TellsPossible, IsPlainFor, IsOnlyFor}

-- a decided goal with a well-formed fact, admitted and without inference variables, and values of its placeholders
pub record IsFormedGoal (V : World) (sorts : Sorts) (admits : CanonicalForm → Bool) (q : NestedQuestion) (v : Values) : Type 0 where
  pub asked : IsGoalOf V admits (IsFormedFact V sorts) q v
  pub closed : AreClosed q.form.kinds
  pub places : ArePlaces q.form.kinds v

-- the declarations are accepted and well-formed, and nested goals of admitted goals are admitted
pub record AreDeclared (m : ViewMeaning) (mode : TypingMode) (fits admits : CanonicalForm → Bool) (sorts : Sorts) : Type 0 where
  pub sound : m.is_sound ≡ true
  pub well : IsDeclaredWell m.view
  pub formed : IsFormedView m.view sorts
  pub admitted : FitsAreKept m mode fits admits (IsFormedFact m.view sorts)

module _ {W : Type 0} (applicable : AnswerTrees → Bool) (same : AnswerTrees → AnswerTrees → Bool) (meaning_of : W → ViewMeaning) (fits_in : W → CanonicalForm → Bool) {C I R F : Type 0}
    (handles : Handles C I R F W (GoalInMode frame_tables (solver_programs applicable same meaning_of fits_in)) (Option AnswerTrees)) where
  -- plain recursion refutes exactly what is not possible, in any number of steps
  abbrev pub FormedIsExact : Type 0
  FormedIsExact =
      (w : W) (mode : TypingMode) (sorts : Sorts) (admits : CanonicalForm → Bool) → AreDeclared (meaning_of w) mode (fits_in w) admits sorts → (n : ℕ) (q : NestedQuestion) (v : Values) (a : Option AnswerTrees)
      → IsFormedGoal (meaning_of w).view sorts admits q v → IsPlainFor applicable same meaning_of fits_in handles w mode n q a → IsExactFor (ways_by (meaning_of w) mode) n (fact_of q v) a

  -- a search that agrees with plain recursion within its limit refutes a bounded goal exactly if it is not possible
  abbrev pub FormedSearchesAreExact : Type 0
  FormedSearchesAreExact =
      (w : W) (mode : TypingMode) (sorts : Sorts) (admits : CanonicalForm → Bool) → AreDeclared (meaning_of w) mode (fits_in w) admits sorts → (n limit : ℕ) (q : NestedQuestion) (v : Values) (a : Option AnswerTrees) → n ≤ limit
      → IsFormedGoal (meaning_of w).view sorts admits q v → HasShortChains (ways_by (meaning_of w) mode) n (fact_of q v) → IsOnlyFor applicable same meaning_of fits_in handles w mode limit q a
      → IsExactFor (ways_by (meaning_of w) mode) n (fact_of q v) a

  -- outside coherence it returns a definite yes for an unambiguous trait reference that has a proof, and refutes one that has
  -- none
  abbrev pub FormedSearchesAreRight : Type 0
  FormedSearchesAreRight =
      (w : W) (sorts : Sorts) (admits : CanonicalForm → Bool) → AreDeclared (meaning_of w) PostAnalysis (fits_in w) admits sorts → (n limit : ℕ) (q : NestedQuestion) (v : Values) (a : Option AnswerTrees) → n ≤ limit
      → IsFormedGoal (meaning_of w).view sorts admits q v → SingleWay n (meaning_of w).view (clauses_of (fact_of q v).goal.environment) (reference_in (fact_of q v))
      → IsOnlyFor applicable same meaning_of fits_in handles w PostAnalysis limit q a → IsRightFor frame_tables (FactIsProved (meaning_of w).view) (fact_of q v) a

  -- in coherence it refutes a bounded trait reference without where-clauses exactly if it is not possible
  abbrev pub FormedTellsPossible : Type 0
  FormedTellsPossible =
      (w : W) (sorts : Sorts) (admits : CanonicalForm → Bool) → AreDeclared (meaning_of w) Coherence (fits_in w) admits sorts → (n limit : ℕ) (q : NestedQuestion) (v : Values) (a : Option AnswerTrees) → n ≤ limit
      → IsFormedGoal (meaning_of w).view sorts admits q v → clauses_of (fact_of q v).goal.environment ≡ [] → is_bounded n (meaning_of w).view (meaning_of w).crate (reference_in (fact_of q v)) ≡ true
      → IsOnlyFor applicable same meaning_of fits_in handles w Coherence limit q a → TellsPossible (meaning_of w).view (meaning_of w).crate n (reference_in (fact_of q v)) a
