-- Queries as they are evaluated in coherence: their trait references alone, with inference variables for their variables.
use Rattle.std.specs.Prelude.{◌≡◌, ◌⊎◌, ◌+◌, ℕ, [], Option, Some, None}
use Rattle.type_terms.specs.Promised.Label.{of_trait, predicate}
use Rattle.type_terms.specs.Promised.Trees.{none, tree}
use Rattle.type_terms.specs.Promised.Worlds.{Reference}
use Rattle.infer_table.specs.Canonical.{GoalTrees, CanonicalForm, canonical_form}
use Rattle.infer_table.specs.Responses.{AnswerTrees}
use Rattle.infer_table.specs.Solutions.{Assignment, IsSorted}
use Rattle.infer_table.specs.Unification.{TableTrees}
use Rattle.infer_table.specs.declared.certainty.TypingMode.{TypingMode}
use Rattle.infer_table.specs.declared.certainty.TypingMode.TheVariants.{Coherence}
use Rattle.goal_evaluator.specs.Handler.{Handled}
use Rattle.goal_evaluator.specs.Tables.{frame_tables}
use Rattle.search_graph.specs.Plain.{IsNotPlain}
use Rattle.solver_graph.specs.Contexts.{Asked}
use Rattle.solver_graph.specs.Evaluations.{IsFoundBySearch}
use Rattle.solver_graph.specs.Roots.{fact_under, left_by}
use Rattle.solver_graph.specs.Searching.{solver_meaning}
use Rattle.goal_frames.specs.Meanings.{HandlerMeaning}

-- ---- goals
-- A trait reference as a goal without where-clauses.
abbrev pub goal_alone : Reference → GoalTrees
goal_alone r = record { environment = none; predicate = tree (predicate (of_trait r.trait)) r.args none }

-- Whatever its variables stand for, it has no proof in any of the handler's worlds.
abbrev pub HasNoProof : (TypingMode → CanonicalForm → Handled frame_tables) → GoalTrees → Type 0
HasNoProof handled g =
    let h = handled Coherence (canonical_form g) in
    (x : h.World) (s : Assignment) → IsSorted s → h.Proves x (fact_under s g) → ⊥

-- The goal that the search evaluates.
abbrev pub asked_alone : Reference → Asked
asked_alone r = (Coherence, canonical_form (goal_alone r))

module _ {Handler : Type 0} (handler : HandlerMeaning Handler) where
  -- The search gives the trait reference an answer that is no refusal, or plain recursion has none within the depth.
  abbrev pub IsLeftOpen : handler.goals.World → ℕ → Reference → Type 0
  IsLeftOpen w depth r =
      let m = solver_meaning handler in
      ((a : AnswerTrees) × IsFoundBySearch m w depth (asked_alone r) (Some a)) ⊎ IsNotPlain m w (depth + 1) (asked_alone r)

  -- The search refuses the trait reference, or gives it an answer that a table refuses in which no variable has a value.
  pub record IsRefusedAlone (w : handler.goals.World) (depth : ℕ) (r : Reference) : Type 0 where
    pub table : TableTrees
    pub no_values : table.bindings ≡ []
    pub answer : Option AnswerTrees
    pub found : IsFoundBySearch (solver_meaning handler) w depth (asked_alone r) answer
    pub refused : left_by table (goal_alone r) answer ≡ None
