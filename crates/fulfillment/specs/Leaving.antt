-- The tables that answers to several goals leave, and what the search says of a goal over one of them.
use Rattle.std.specs.Prelude.{◌≡◌, ◌≤◌, ◌<◌, ◌+◌, ◌⊎◌, ℕ, false, List, Option, Some, None, Contains}
use Rattle.infer_table.specs.Applying.{unknowns_of}
use Rattle.infer_table.specs.Canonical.{GoalTrees, canonical_form}
use Rattle.infer_table.specs.Covers.{Continues}
use Rattle.infer_table.specs.Goals.{goal_resolved}
use Rattle.infer_table.specs.Responses.{AnswerTrees}
use Rattle.infer_table.specs.Solutions.{Assignment, Solves}
use Rattle.infer_table.specs.Unification.{TableTrees}
use Rattle.infer_table.specs.declared.certainty.TypingMode.{TypingMode}
use Rattle.search_graph.specs.Plain.{IsNotPlain}
use Rattle.goal_evaluator.specs.Tables.{frame_tables}
use Rattle.goal_frames.specs.Meanings.{HandlerMeaning}
use Rattle.goal_frames.specs.Searches.{is_yes_answer}
use Rattle.solver_graph.specs.Askings.{frames_for}
use Rattle.solver_graph.specs.Contexts.{Asked}
use Rattle.solver_graph.specs.Evaluations.{IsFoundBySearch}
use Rattle.solver_graph.specs.LeftTables.{IsPosedIn, AnswerLeaves}
use Rattle.solver_graph.specs.Roots.{fact_under, left_by}
use Rattle.solver_graph.specs.Searching.{solver_meaning}

-- the canonical form of the goal over this table, in this typing mode
abbrev pub asked_over : TypingMode → TableTrees → GoalTrees → Asked
asked_over mode t g = (mode, canonical_form (goal_resolved t.bindings g))

module _ {Handler : Type 0} (handler : HandlerMeaning Handler) where
  -- Answers to some of the goals, one after the other, leave the second table of the first. Each answer keeps the solutions at which its
  -- goal has a proof in one of the handler's worlds. So no solution is lost at which all goals have such proofs.
  pub data GoalsLeave (mode : TypingMode) (w : handler.goals.World) (gs : List GoalTrees) (t : TableTrees) : TableTrees → Type 0 where
    itself : GoalsLeave mode w gs t t
    further : {u v : TableTrees} → GoalsLeave mode w gs t u → (g : GoalTrees) → Contains gs g → AnswerLeaves handler mode w g u v → GoalsLeave mode w gs t v

  -- The search at this depth refuses the goal over the table, or gives an answer that the table refuses. Then the goal has a proof at no
  -- solution of the table in any of the handler's worlds.
  pub record IsRefusedOver (mode : TypingMode) (w : handler.goals.World) (depth : ℕ) (t : TableTrees) (g : GoalTrees) : Type 0 where
    pub answer : Option AnswerTrees
    pub found : IsFoundBySearch (solver_meaning handler) w depth (asked_over mode t g) answer
    pub refused : left_by t (goal_resolved t.bindings g) answer ≡ None
    pub no_proof : IsPosedIn t g → let h = handler.goals.handled w mode (canonical_form (goal_resolved t.bindings g)) in
        (x : h.World) (s : Assignment) → Solves s t.bindings → h.Proves x (fact_under s g) → ⊥

  -- The search refuses one of the goals over a table that answers to them leave. Since that keeps each solution at which all goals have
  -- proofs, there is none.
  pub record IsRefusedAmong (mode : TypingMode) (w : handler.goals.World) (depth : ℕ) (gs : List GoalTrees) (t : TableTrees) (g : GoalTrees) : Type 0 where
    pub table : TableTrees
    pub left : GoalsLeave mode w gs t table
    pub refused : IsRefusedOver mode w depth table g

  -- The search at this depth gives the goal over the table an answer that is no definite yes, or plain recursion has none within the depth.
  abbrev pub IsUnsettledOver : TypingMode → handler.goals.World → ℕ → TableTrees → GoalTrees → Type 0
  IsUnsettledOver mode w depth t g =
      let m = solver_meaning handler in
      IsNotPlain m w (depth + 1) (asked_over mode t g)
      ⊎ ((a : AnswerTrees) × IsFoundBySearch m w depth (asked_over mode t g) (Some a) × (is_yes_answer frame_tables (Some a) ≡ false))

  -- The search does not settle one of the goals over a table that answers to them leave.
  pub record SomeIsOpen (mode : TypingMode) (w : handler.goals.World) (depth : ℕ) (gs : List GoalTrees) (t : TableTrees) : Type 0 where
    pub goal : GoalTrees
    pub among : Contains gs goal
    pub table : TableTrees
    pub left : GoalsLeave mode w gs t table
    pub unsettled : IsUnsettledOver mode w depth table goal

  -- ---- frames
  -- From the first count of frames at most the second is reached by at most this many evaluations of the goals, one after the other, each over
  -- a table that answers to them leave.
  pub data EvaluationsStart (mode : TypingMode) (w : handler.goals.World) (depth : ℕ) (gs : List GoalTrees) (t : TableTrees) (before : ℕ) : ℕ → ℕ → Type 0 where
    none : {n after : ℕ} → after ≤ before → EvaluationsStart mode w depth gs t before n after
    one_more : {m n between after : ℕ} → EvaluationsStart mode w depth gs t before m between → m < n → (u : TableTrees) → GoalsLeave mode w gs t u
        → (g : GoalTrees) → Contains gs g → after ≤ between + frames_for handler w depth (asked_over mode u g) → EvaluationsStart mode w depth gs t before n after

  -- ---- solutions
  -- The goal is posed in the table, and has a proof at this solution in one of the handler's worlds.
  pub record IsProvedAt (mode : TypingMode) (w : handler.goals.World) (t : TableTrees) (g : GoalTrees) (s : Assignment) : Type 0 where
    pub posed : IsPosedIn t g
    pub world : (handler.goals.handled w mode (canonical_form (goal_resolved t.bindings g))).World
    pub proof : (handler.goals.handled w mode (canonical_form (goal_resolved t.bindings g))).Proves world (fact_under s g)

  -- All goals have such proofs at this solution of the table, wherever it goes on to in tables that answers to the goals leave.
  abbrev pub AreProvedTogether : TypingMode → handler.goals.World → List GoalTrees → TableTrees → Assignment → Type 0
  AreProvedTogether mode w gs t s =
      (u : TableTrees) → GoalsLeave mode w gs t u → (r : Assignment) → Continues (unknowns_of t) s r → Solves r u.bindings
      → (g : GoalTrees) → Contains gs g → IsProvedAt mode w u g r
