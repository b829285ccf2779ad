-- The results of plain recursion over the solver's frames, and of a search, for goals without inference variables.
use Rattle.std.proofs.Common.{ℕ, zero, suc, Bool, List, map, Option}
use Rattle.type_terms.specs.Promised.Worlds.{World, Reference}
use Rattle.type_terms.specs.Promised.Proofs.{HasProof}
use Rattle.infer_table.specs.Canonical.{CanonicalForm}
use Rattle.infer_table.specs.declared.certainty.TypingMode.TheVariants.{PostAnalysis}
use Rattle.infer_table.specs.Responses.{AnswerTrees}
use Rattle.goal_evaluator.specs.Lists.{Every}
use Rattle.goal_evaluator.specs.Content.{Values, Fact, NestedQuestion, fact_of}
use Rattle.goal_evaluator.specs.Tables.{frame_tables}
use Rattle.goal_evaluator.proofs.FrameTableLaws.{tables_are_lawful}
use Rattle.goal_frames.specs.Programs.{ArePrograms}
use Rattle.goal_frames.specs.Searches.{Handles, GoalInMode}
use Rattle.solver_completeness.specs.ClosedTables.{closed_tables}
use Rattle.solver_completeness.specs.ModelWays.{ways_under}
use Rattle.solver_completeness.specs.Ways.{HasOneWayWithin, HoldsByWays}
use Rattle.solver_completeness.proofs.ClosedLaws.{closed_tables_are_lawful}
use Rattle.solver_completeness.proofs.Induction.{plain_is_exact}
use Rattle.solver_completeness.proofs.Found.{found_is_exact, found_is_right}
use Rattle.solver_completeness.proofs.ModelWays.{proofs_are_by_ways, single_way_is_decided}
use Rattle.solver_completeness.proofs.MovedWays.{every-from, every-to, some-from, some-to, one-to}
use Rattle.candidate_model.specs.Facts.{clauses_of, reference_in, beside}
use Rattle.candidate_model.specs.Meaning.{ViewMeaning}
use Rattle.solver_completeness.specs.SolverWays.{ways_outside}
use Rattle.solver_completeness.specs.SolverGoals.{FactIsProved}
use Rattle.solver_completeness.specs.SolverAnswers.{solver_programs, SolverIsExact, SolverSearchesAreExact, SolverSearchesAreRight}
use Rattle.solver_completeness.proofs.SolverHandlers.{solver_answers_exactly, solver_is_sure}

-- ---- the truth of facts
module _ (V : World) where
  abbrev under : Fact → Reference → List (List Reference)
  under f r = ways_under V (clauses_of f.goal.environment) r

  abbrev Proved : Fact → Reference → Type 0
  Proved f r = HasProof V (clauses_of f.goal.environment) r

  -- a fact is proved exactly if the premises of one of its ways are
  proved-by-ways : HoldsByWays (ways_outside V) (FactIsProved V)
  proved-by-ways = record {
    by_way = λ f s.
        (proofs_are_by_ways V (clauses_of f.goal.environment)).by_way (reference_in f)
        (some-from (map (beside f)) (Every (FactIsProved V)) (Every (Proved f)) (λ ps i. every-from (beside f) (FactIsProved V) (Proved f) (λ r p. p) ps i) (under f (reference_in f)) s);
    has_way = λ f p.
        some-to (map (beside f)) (Every (FactIsProved V)) (Every (Proved f)) (λ ps i. every-to (beside f) (FactIsProved V) (Proved f) (λ r q. q) ps i) (under f (reference_in f))
        ((proofs_are_by_ways V (clauses_of f.goal.environment)).has_way (reference_in f) p);
  }

  -- and decided where its reference is
  decided-facts : (n : ℕ) (f : Fact) → HasOneWayWithin (under f) (Proved f) n (reference_in f) → HasOneWayWithin (ways_outside V) (FactIsProved V) n f
  decided-facts zero f h = absurd h
  decided-facts (suc n) f h = (
    one-to (map (beside f)) (Every (FactIsProved V)) (Every (Proved f)) (λ ps i. every-from (beside f) (FactIsProved V) (Proved f) (λ r p. p) ps i) (under f (reference_in f)) h.0,
    every-to (map (beside f)) (Every (HasOneWayWithin (ways_outside V) (FactIsProved V) n)) (Every (HasOneWayWithin (under f) (Proved f) n))
        (λ ps i. every-to (beside f) (HasOneWayWithin (ways_outside V) (FactIsProved V) n) (HasOneWayWithin (under f) (Proved f) n) (λ r j. decided-facts n (beside f r) j) ps i) (under f (reference_in f)) h.1,
  )

module _ {W : Type 0} (applicable : AnswerTrees → Bool) (same : AnswerTrees → AnswerTrees → Bool) (meaning_of : W → ViewMeaning) (fits_in : W → CanonicalForm → Bool) {C I R F : Type 0}
    (handles : Handles C I R F W (GoalInMode frame_tables (solver_programs applicable same meaning_of fits_in)) (Option AnswerTrees)) (IsAsked : NestedQuestion → Values → Type 0) where
  pub solver-is-exact : SolverIsExact applicable same meaning_of fits_in handles IsAsked
  solver-is-exact w mode good n q v a goal x =
      (plain_is_exact frame_tables tables_are_lawful closed_tables closed_tables_are_lawful (solver_programs applicable same meaning_of fits_in) w mode
      (solver_answers_exactly applicable same meaning_of fits_in w good.sound good.well IsAsked mode good.goals) handles n q v a goal.asked goal.closed goal.places x).1

  module _ (programs : ArePrograms frame_tables (solver_programs applicable same meaning_of fits_in)) where
    pub solver-searches-are-exact : SolverSearchesAreExact applicable same meaning_of fits_in handles IsAsked
    solver-searches-are-exact w mode good n limit q v a l goal short only =
        found_is_exact frame_tables tables_are_lawful closed_tables closed_tables_are_lawful (solver_programs applicable same meaning_of fits_in) programs w mode
        (solver_answers_exactly applicable same meaning_of fits_in w good.sound good.well IsAsked mode good.goals) handles n limit q v a l goal.asked goal.closed goal.places short only

    pub solver-searches-are-right : SolverSearchesAreRight applicable same meaning_of fits_in handles IsAsked
    solver-searches-are-right w good n limit q v a l goal single only =
        found_is_right frame_tables tables_are_lawful closed_tables closed_tables_are_lawful (solver_programs applicable same meaning_of fits_in) programs w PostAnalysis
        (solver_answers_exactly applicable same meaning_of fits_in w good.sound good.well IsAsked PostAnalysis good.goals) handles
        (solver_is_sure applicable same meaning_of fits_in w good.sound good.well IsAsked good.goals) (FactIsProved (meaning_of w).view) (proved-by-ways (meaning_of w).view) n limit q v a l goal.asked goal.closed goal.places
        (decided-facts (meaning_of w).view n (fact_of q v) (single_way_is_decided (meaning_of w).view (clauses_of (fact_of q v).goal.environment) n (reference_in (fact_of q v)) single)) only
