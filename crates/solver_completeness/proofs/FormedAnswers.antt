-- Decided goals with well-formed facts are closed under nested goals, so the results for such sets apply.
use Rattle.std.proofs.Common.{Bool, Option}
use Rattle.infer_table.specs.Canonical.{CanonicalForm}
use Rattle.infer_table.specs.declared.certainty.TypingMode.{TypingMode}
use Rattle.infer_table.specs.declared.certainty.TypingMode.TheVariants.{Coherence, PostAnalysis}
use Rattle.infer_table.specs.Responses.{AnswerTrees}
use Rattle.goal_evaluator.specs.Content.{Values, NestedQuestion}
use Rattle.goal_evaluator.specs.Tables.{frame_tables}
use Rattle.goal_frames.specs.Programs.{ArePrograms}
use Rattle.goal_frames.specs.Searches.{Handles, GoalInMode}
use Rattle.candidate_model.specs.Meaning.{ViewMeaning}
use Rattle.solver_completeness.specs.GoalSets.{IsGoalOf}
use Rattle.solver_completeness.specs.FormedFacts.{Sorts, IsFormedFact}
use Rattle.solver_completeness.specs.SolverAnswers.{solver_programs, HasGoodDeclarations, IsClosedGoal}
use Rattle.solver_completeness.specs.FormedAnswers.{IsFormedGoal, AreDeclared, FormedIsExact, FormedSearchesAreExact, FormedSearchesAreRight, FormedTellsPossible}
use Rattle.solver_completeness.proofs.GoalSets.{goals-lead-to-goals}
use Rattle.solver_completeness.proofs.FormedWays.{formed-are-kept}
use Rattle.solver_completeness.proofs.SolverAnswers.{solver-is-exact, solver-searches-are-exact, solver-searches-are-right}
use Rattle.solver_completeness.proofs.ClosedAnswers.{solver-tells-possible}

module _ {W : Type 0} (applicable : AnswerTrees → Bool) (same : AnswerTrees → AnswerTrees → Bool) (meaning_of : W → ViewMeaning) (fits_in : W → CanonicalForm → Bool) {C I R F : Type 0}
    (handles : Handles C I R F W (GoalInMode frame_tables (solver_programs applicable same meaning_of fits_in)) (Option AnswerTrees)) where
  abbrev Set : W → Sorts → (CanonicalForm → Bool) → NestedQuestion → Values → Type 0
  Set w sorts admits q v = IsGoalOf (meaning_of w).view admits (IsFormedFact (meaning_of w).view sorts) q v

  good : (w : W) (mode : TypingMode) (sorts : Sorts) (admits : CanonicalForm → Bool) → AreDeclared (meaning_of w) mode (fits_in w) admits sorts
      → HasGoodDeclarations applicable same meaning_of fits_in handles (Set w sorts admits) w mode
  good w mode sorts admits d = record {
    sound = d.sound;
    well = d.well;
    goals =
        goals-lead-to-goals (IsFormedFact (meaning_of w).view sorts) (meaning_of w) mode (fits_in w) admits d.well (formed-are-kept (meaning_of w) mode sorts d.well d.formed) d.admitted;
  }

  closed : (w : W) (sorts : Sorts) (admits : CanonicalForm → Bool) (q : NestedQuestion) (v : Values) → IsFormedGoal (meaning_of w).view sorts admits q v
      → IsClosedGoal applicable same meaning_of fits_in handles (Set w sorts admits) q v
  closed w sorts admits q v g = record { asked = g.asked; closed = g.closed; places = g.places }

  pub formed-is-exact : FormedIsExact applicable same meaning_of fits_in handles
  formed-is-exact w mode sorts admits d n q v a g x =
      solver-is-exact applicable same meaning_of fits_in handles (Set w sorts admits) w mode (good w mode sorts admits d) n q v a (closed w sorts admits q v g) x

  module _ (programs : ArePrograms frame_tables (solver_programs applicable same meaning_of fits_in)) where
    pub formed-searches-are-exact : FormedSearchesAreExact applicable same meaning_of fits_in handles
    formed-searches-are-exact w mode sorts admits d n limit q v a l g short only =
        solver-searches-are-exact applicable same meaning_of fits_in handles (Set w sorts admits) programs w mode (good w mode sorts admits d) n limit q v a l (closed w sorts admits q v g) short only

    pub formed-searches-are-right : FormedSearchesAreRight applicable same meaning_of fits_in handles
    formed-searches-are-right w sorts admits d n limit q v a l g single only =
        solver-searches-are-right applicable same meaning_of fits_in handles (Set w sorts admits) programs w (good w PostAnalysis sorts admits d) n limit q v a l (closed w sorts admits q v g) single only

    pub formed-tells-possible : FormedTellsPossible applicable same meaning_of fits_in handles
    formed-tells-possible w sorts admits d n limit q v a l g clauses bounded only =
        solver-tells-possible applicable same meaning_of fits_in handles (Set w sorts admits) programs w (good w Coherence sorts admits d) n limit q v a l (closed w sorts admits q v g) clauses bounded only
