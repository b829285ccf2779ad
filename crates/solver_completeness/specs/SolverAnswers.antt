-- The results of plain recursion over the solver's frames, and of a search, for goals without inference variables.
use Rattle.std.specs.Prelude.{◌≡◌, ◌≤◌, ◌&&◌, ℕ, Bool, true, false, [], Option, Some, None}
use Rattle.type_terms.specs.Promised.Worlds.{World, Reference}
use Rattle.type_terms.specs.Promised.Answers.{SingleWay, is_bounded, is_possible}
use Rattle.infer_table.specs.Canonical.{CanonicalForm}
use Rattle.infer_table.specs.declared.certainty.TypingMode.{TypingMode}
use Rattle.infer_table.specs.declared.certainty.TypingMode.TheVariants.{Coherence, PostAnalysis}
use Rattle.infer_table.specs.Responses.{AnswerTrees}
use Rattle.search_graph.specs.Plain.{IsPlain}
use Rattle.goal_evaluator.specs.Content.{Values, NestedQuestion, fact_of}
use Rattle.goal_evaluator.specs.Tables.{frame_tables}
use Rattle.goal_frames.specs.Programs.{Programs}
use Rattle.goal_frames.specs.Searches.{Handles, GoalInMode, meaning}
use Rattle.goal_frames.specs.Meanings.{Goals}
use Rattle.goal_frames.specs.HandlerPrograms.{programs_of}
use Rattle.solver_completeness.specs.ClosedTables.{AreClosed, ArePlaces}
use Rattle.solver_completeness.specs.Ways.{HasShortChains, IsExactFor, IsRightFor}
use Rattle.candidate_model.specs.Facts.{FollowsByView, is_coinductive_fact, clauses_of, reference_in}
use Rattle.candidate_model.specs.Meaning.{ViewMeaning}
use Rattle.candidate_model.specs.DeclaredWell.{IsDeclaredWell}
use Rattle.candidate_model.specs.Solver.{solver_handled}
use Rattle.solver_completeness.specs.SolverGoals.{ways_by, FactIsProved, AreGoals}

-- The meaning of a goal. One that does not fit the declarations is not decided.
abbrev pub meant_for : ViewMeaning → (CanonicalForm → Bool) → CanonicalForm → ViewMeaning
meant_for m fits f = record { view = m.view; crate = m.crate; is_sound = m.is_sound && fits f }

-- the solver's goals, if contexts represent declarations and determine which goals fit them
module _ {W : Type 0} (applicable : AnswerTrees → Bool) (same : AnswerTrees → AnswerTrees → Bool) (meaning_of : W → ViewMeaning) (fits_in : W → CanonicalForm → Bool) where
  abbrev pub solver_goals : Goals
  solver_goals = record {
    World = W;
    handled = λ w mode f. solver_handled applicable same (meant_for (meaning_of w) (fits_in w) f) mode f;
    Rule = λ w. FollowsByView (meaning_of w).view;
    coinductive = λ w. is_coinductive_fact (meaning_of w).view;
  }

  abbrev pub solver_programs : Programs frame_tables
  solver_programs = programs_of solver_goals

-- the result for a trait reference in a crate with this view: `None` if it is not possible in chains of fewer than n steps, and a
-- response otherwise
pub record TellsPossible (V : World) (crate n : ℕ) (r : Reference) (a : Option AnswerTrees) : Type 0 where
  pub refused : a ≡ None → is_possible n V crate r ≡ false
  pub answered : (x : AnswerTrees) → a ≡ Some x → is_possible n V crate r ≡ true

module _ {W : Type 0} (applicable : AnswerTrees → Bool) (same : AnswerTrees → AnswerTrees → Bool) (meaning_of : W → ViewMeaning) (fits_in : W → CanonicalForm → Bool) {C I R F : Type 0}
    (handles : Handles C I R F W (GoalInMode frame_tables (solver_programs applicable same meaning_of fits_in)) (Option AnswerTrees)) where
  -- the result of plain recursion for the canonical goal, in chains of fewer than n goals
  abbrev pub IsPlainFor : W → TypingMode → ℕ → NestedQuestion → Option AnswerTrees → Type 0
  IsPlainFor w mode n q a = IsPlain (meaning frame_tables (solver_programs applicable same meaning_of fits_in) handles) w n (mode, q.form) a

  -- it has no other result
  abbrev pub IsOnlyFor : W → TypingMode → ℕ → NestedQuestion → Option AnswerTrees → Type 0
  IsOnlyFor w mode limit q a = (b : Option AnswerTrees) → IsPlainFor w mode limit q b → b ≡ a

  module _ (IsAsked : NestedQuestion → Values → Type 0) where
    -- the declarations are accepted and well-formed, and the set is closed under nested goals in this typing mode
    pub record HasGoodDeclarations (w : W) (mode : TypingMode) : Type 0 where
      pub sound : (meaning_of w).is_sound ≡ true
      pub well : IsDeclaredWell (meaning_of w).view
      pub goals : AreGoals (meaning_of w) mode (fits_in w) IsAsked

    -- a canonical goal of the set without inference variables, and values of its placeholders
    pub record IsClosedGoal (q : NestedQuestion) (v : Values) : Type 0 where
      pub asked : IsAsked q v
      pub closed : AreClosed q.form.kinds
      pub places : ArePlaces q.form.kinds v

    -- plain recursion refutes exactly what is not possible by the rules of the view, and in coherence also by the supertraits of
    -- trait references that are not knowable
    abbrev pub SolverIsExact : Type 0
    SolverIsExact =
        (w : W) (mode : TypingMode) → HasGoodDeclarations w mode → (n : ℕ) (q : NestedQuestion) (v : Values) (a : Option AnswerTrees) → IsClosedGoal q v
        → IsPlainFor w mode n q a → IsExactFor (ways_by (meaning_of w) mode) n (fact_of q v) a

    -- a search that agrees with plain recursion within its limit refutes a bounded goal exactly if it is not possible
    abbrev pub SolverSearchesAreExact : Type 0
    SolverSearchesAreExact =
        (w : W) (mode : TypingMode) → HasGoodDeclarations w mode → (n limit : ℕ) (q : NestedQuestion) (v : Values) (a : Option AnswerTrees) → n ≤ limit → IsClosedGoal q v
        → HasShortChains (ways_by (meaning_of w) mode) n (fact_of q v) → IsOnlyFor w mode limit q a → IsExactFor (ways_by (meaning_of w) mode) n (fact_of q v) a

    -- outside coherence it returns a definite yes for an unambiguous trait reference that has a proof, and refutes one that has
    -- none
    abbrev pub SolverSearchesAreRight : Type 0
    SolverSearchesAreRight =
        (w : W) → HasGoodDeclarations w PostAnalysis → (n limit : ℕ) (q : NestedQuestion) (v : Values) (a : Option AnswerTrees) → n ≤ limit → IsClosedGoal q v
        → SingleWay n (meaning_of w).view (clauses_of (fact_of q v).goal.environment) (reference_in (fact_of q v)) → IsOnlyFor w PostAnalysis limit q a
        → IsRightFor frame_tables (FactIsProved (meaning_of w).view) (fact_of q v) a

    -- in coherence it refutes a bounded trait reference without where-clauses exactly if it is not possible
    abbrev pub SolverTellsPossible : Type 0
    SolverTellsPossible =
        (w : W) → HasGoodDeclarations w Coherence → (n limit : ℕ) (q : NestedQuestion) (v : Values) (a : Option AnswerTrees) → n ≤ limit → IsClosedGoal q v
        → clauses_of (fact_of q v).goal.environment ≡ [] → is_bounded n (meaning_of w).view (meaning_of w).crate (reference_in (fact_of q v)) ≡ true → IsOnlyFor w Coherence limit q a
        → TellsPossible (meaning_of w).view (meaning_of w).crate n (reference_in (fact_of q v)) a
