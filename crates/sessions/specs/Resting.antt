-- What is true of a context, a graph and a cache between two calls.
use Rattle.std.specs.Prelude.{◌≡◌, ℕ, List, Option}
use Rattle.search_graph.specs.Cache.{KnownResult, AreJustified}
use Rattle.search_graph.specs.SearchState.{SearchState}
use Rattle.goal_frames.specs.declared.store.InputId.{InputId}
use Rattle.goal_frames.specs.declared.store.ResponseId.{ResponseId}
use Rattle.solver_graph.specs.declared.context.SolverCx.{SolverCx}
use Rattle.solver_graph.specs.Contexts.{IsReady}
use Rattle.solver_graph.specs.Searching.{solver_meaning}
use Rattle.goal_frames.specs.Meanings.{HandlerMeaning}

abbrev pub Cached : Type 0
Cached = List (KnownResult InputId (Option ResponseId))

module _ {Handler : Type 0} (handler : HandlerMeaning Handler) where
  -- No goal is being evaluated, a root goal has this depth, all handles are of the interner, and what the cache holds is justified.
  pub record AreAtRest (root_depth : ℕ) (cx : SolverCx Handler) (graph : SearchState) (cache : Cached) : Type 0 where
    pub empty : graph.current_depth ≡ 0
    pub depth : graph.root_depth ≡ root_depth
    pub cached : AreJustified (solver_meaning handler) cx cache
    pub ready : IsReady handler.IsReady cx
