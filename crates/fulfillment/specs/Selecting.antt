-- Obligations over one table are selected: what each round needs and preserves, and what the ends say.
use Rattle.std.specs.Prelude.{ℕ, ◌≡◌, ◌≤◌, ◌⊎◌, List, Option, Some, All, slice_get}
use Rattle.std.specs.List.{AllZip}
use Rattle.infer_table.specs.Content.{Table, content, Ready}
use Rattle.infer_table.specs.Goals.{goal_trees}
use Rattle.infer_table.specs.Inputs.{IsWithoutCanonical}
use Rattle.infer_table.specs.Solutions.{Assignment, Solves}
use Rattle.infer_table.specs.Unification.{table_trees}
use Rattle.infer_table.specs.WithoutCanonical.{HaveNoCanonical}
use Rattle.infer_table.specs.declared.certainty.TypingMode.{TypingMode}
use Rattle.infer_table.specs.declared.goal.Goal.{Goal}
use Rattle.search_graph.specs.Cache.{AreJustified}
use Rattle.search_graph.specs.SearchState.{SearchState}
use Rattle.goal_evaluator.specs.Content.{Fact}
use Rattle.goal_evaluator.specs.Proof as Lists
use Rattle.goal_frames.specs.Meanings.{HandlerMeaning}
use Rattle.solver_graph.specs.Contexts.{entries_of, IsReady}
use Rattle.solver_graph.specs.RootEvaluations.{KnownResults}
use Rattle.solver_graph.specs.Roots.{fact_under}
use Rattle.solver_graph.specs.Searching.{solver_meaning, world_in}
use Rattle.solver_graph.specs.Settling.{HasAsked, IsProvedBy, IsUnsettled}
use Rattle.solver_graph.specs.declared.context.SolverCx.{SolverCx}
use Rattle.fulfillment.specs.Leaving.{EvaluationsStart, GoalsLeave, IsRefusedAmong, SomeIsOpen}
use Rattle.fulfillment.specs.Obligations.{ObligationsHeld, ObligationIsKept, ObligationIsSettled, total_left, trees_of_goals}
use Rattle.fulfillment.specs.declared.obligation.Obligation.{Obligation}
use Rattle.fulfillment.specs.declared.obligation.ObligationId.{ObligationId}
use Rattle.fulfillment.specs.declared.obligation.Standing.TheVariants.{Done}

-- There is an end, and so many frames reach it.
abbrev pub IsReached : Option ℕ → ℕ → Type 0
IsReached until frames = (end : ℕ) × (until ≡ Some end) × (end ≤ frames)

module _ {Handler : Type 0} (handler : HandlerMeaning Handler) where
  -- The goals can be evaluated in the table: no search runs, the cache is justified, and all handles are the context's.
  pub record CanSelect (graph : SearchState) (ks : KnownResults) (c : SolverCx Handler) (t : Table) (os : List Obligation) : Type 0 where
    pub empty : graph.current_depth ≡ 0
    pub cache : AreJustified (solver_meaning handler) c ks
    pub ready : IsReady handler.IsReady c
    pub table : Ready (entries_of c) t
    pub goals : ObligationsHeld (entries_of c) os

  -- ---- proofs
  -- No canonical variable occurs in the table and in the goals.
  pub record AreClean (c : SolverCx Handler) (t : Table) (os : List Obligation) : Type 0 where
    pub table : HaveNoCanonical (content (entries_of c) t.values)
    pub goals : All (λ (o : Obligation). IsWithoutCanonical (goal_trees (entries_of c) o.goal)) os

  -- The goal has a proof by the handler's rules at each solution of the table.
  abbrev pub IsProvedIn : SolverCx Handler → Table → Goal → Type 0
  IsProvedIn c t g =
      (s : Assignment) → Solves s (content (entries_of c) t.values)
      → Lists.FactHasProof Fact (handler.goals.Rule (world_in handler c)) (handler.goals.coinductive (world_in handler c)) (fact_under s (goal_trees (entries_of c) g))

  -- The goal of each obligation that is done has such proofs.
  abbrev pub DoneAreProved : SolverCx Handler → Table → List Obligation → Type 0
  DoneAreProved c t os = All (λ (o : Obligation). o.standing ≡ Done → IsProvedIn c t o.goal) os

  -- ---- one obligation
  -- How an obligation stands after it was evaluated in a table, which left another one, or was not evaluated.
  pub record StandsAfter (graph : SearchState) (c : SolverCx Handler) (t : Table) (mode : TypingMode) (d : SolverCx Handler) (u : Table) (o p : Obligation) : Type 0 where
    pub goal : p.goal ≡ o.goal
    pub stays : o.standing ≡ Done → p.standing ≡ Done
    pub done : p.standing ≡ Done → (o.standing ≡ Done) ⊎ IsProvedBy handler (world_in handler c) c t d u o.goal
    pub left : p.left ≤ o.left
    pub unsettled : (p.left ≡ o.left) ⊎ IsUnsettled handler c graph t mode o.goal

  -- ---- all of them
  -- The search does not settle one of the goals over a table that answers to them leave.
  abbrev pub SomeStaysOpen : TypingMode → SearchState → SolverCx Handler → Table → List Obligation → Type 0
  SomeStaysOpen mode graph c t os = SomeIsOpen handler mode (world_in handler c) graph.root_depth (trees_of_goals (entries_of c) os) (table_trees (entries_of c) t)

  -- What selections preserve. The goals are the same, and answers to them leave the table. If the goals that were done had proofs at each
  -- solution of the table, then those that are done have now. Fewer answers with values are allowed only if some goal stays open.
  pub record HasSelected (mode : TypingMode) (graph : SearchState) (ks : KnownResults) (c : SolverCx Handler) (t : Table) (os : List Obligation)
      (graph_left : SearchState) (ls : KnownResults) (d : SolverCx Handler) (u : Table) (ps : List Obligation) : Type 0 where
    pub asked : HasAsked handler graph ks c t graph_left ls d u
    pub covers : GoalsLeave handler mode (world_in handler c) (trees_of_goals (entries_of c) os) (table_trees (entries_of c) t) (table_trees (entries_of d) u)
    pub kept : AllZip ObligationIsKept os ps
    pub done : AreClean c t os → DoneAreProved c t os → DoneAreProved d u ps
    pub unsettled : (total_left ps ≡ total_left os) ⊎ SomeStaysOpen mode graph c t os

  -- The goal of this obligation was refused over the table that is left.
  abbrev pub ObligationIsRefused : TypingMode → SearchState → SolverCx Handler → Table → List Obligation → ObligationId → Type 0
  ObligationIsRefused mode graph c t os id =
      (o : Obligation) × (slice_get os id.index ≡ Some o)
      × IsRefusedAmong handler mode (world_in handler c) graph.root_depth (trees_of_goals (entries_of c) os) (table_trees (entries_of c) t) (goal_trees (entries_of c) o.goal)

  -- At most this many evaluations of the goals start the frames from the first count of the graph to the second.
  abbrev pub StartsFramesOfSelecting : ℕ → TypingMode → SearchState → SolverCx Handler → Table → List Obligation → SearchState → Type 0
  StartsFramesOfSelecting n mode graph c t os left =
      EvaluationsStart handler mode (world_in handler c) graph.root_depth (trees_of_goals (entries_of c) os) (table_trees (entries_of c) t) graph.frames n left.frames

  -- ---- the last round
  -- The search does not settle this goal, which is one of them, over a table that answers to them leave.
  abbrev pub GoalStaysOpen : TypingMode → SearchState → SolverCx Handler → Table → List Obligation → Goal → Type 0
  GoalStaysOpen mode graph c t os g = (x : SomeStaysOpen mode graph c t os) × (x.goal ≡ goal_trees (entries_of c) g)

  -- A round fixes nothing new: no answer had values, and each goal was evaluated and stays open, unless its obligation is settled.
  pub record FixesNothing (mode : TypingMode) (graph : SearchState) (c : SolverCx Handler) (t : Table) (os ps : List Obligation) : Type 0 where
    pub same : total_left ps ≡ total_left os
    pub each : All (λ (p : Obligation). ObligationIsSettled p ⊎ GoalStaysOpen mode graph c t os p.goal) ps

  -- The last round of a selection fixes nothing new.
  pub record EndsInFixingNothing (mode : TypingMode) (graph : SearchState) (ks : KnownResults) (c : SolverCx Handler) (t : Table) (os : List Obligation)
      (graph_left : SearchState) (ls : KnownResults) (d : SolverCx Handler) (u : Table) (ps : List Obligation) : Type 0 where
    pub last_graph : SearchState
    pub last_results : KnownResults
    pub last_context : SolverCx Handler
    pub last_table : Table
    pub last_obligations : List Obligation
    pub earlier : HasSelected mode graph ks c t os last_graph last_results last_context last_table last_obligations
    pub last : HasSelected mode last_graph last_results last_context last_table last_obligations graph_left ls d u ps
    pub quiet : FixesNothing mode last_graph last_context last_table last_obligations ps
