-- What a trace needs, and what it preserves.
use Rattle.std.specs.Prelude.{◌≡◌, List, Option}
use Rattle.type_terms.specs.Promised.Handles.{Entry, Has, Keeps}
use Rattle.type_terms.specs.Terms.{args_lists}
use Rattle.term_folds.specs.declared.predicate.TraitRef.{TraitRef}
use Rattle.infer_table.specs.Content.{Table, Ready, Grows}
use Rattle.infer_table.specs.Goals.{GoalHeld}
use Rattle.infer_table.specs.declared.goal.Goal.{Goal}
use Rattle.search_graph.specs.Cache.{KnownResult, AreJustified}
use Rattle.search_graph.specs.Meaning as Search
use Rattle.search_graph.specs.SearchState.{SearchState}
use Rattle.goal_evaluator.specs.Lists.{Every}
use Rattle.goal_frames.specs.Meanings.{HandlerMeaning}
use Rattle.goal_frames.specs.declared.store.InputId.{InputId}
use Rattle.goal_frames.specs.declared.store.ResponseId.{ResponseId}
use Rattle.solver_graph.specs.Contexts.{entries_of, IsReady}
use Rattle.solver_graph.specs.Searching.{solver_meaning}
use Rattle.solver_graph.specs.declared.context.SolverCx.{SolverCx}

abbrev pub KnownAnswers : Type 0
KnownAnswers = List (KnownResult InputId (Option ResponseId))

-- The trait references' arguments are the interner's.
abbrev pub ReferencesHeld : List Entry → List TraitRef → Type 0
ReferencesHeld es rs = Every (λ (r : TraitRef). Has es args_lists r.args.0) rs

-- The goals are the interner's.
abbrev pub GoalsHeld : List Entry → List Goal → Type 0
GoalsHeld es gs = Every (GoalHeld es) gs

module _ {Handler : Type 0} (handler : HandlerMeaning Handler) where
  -- A search can run: none is running, the cache is justified, and all handles are the interner's.
  pub record WalkIsAskable (graph : SearchState) (ks : KnownAnswers) (c : SolverCx Handler) : Type 0 where
    pub empty : graph.current_depth ≡ 0
    pub cache : AreJustified (solver_meaning handler) c ks
    pub ready : IsReady handler.IsReady c

  -- What a search preserves: the depth of the graph, and all that the context had.
  pub record WalkHasAsked (graph : SearchState) (c : SolverCx Handler) (graph_left : SearchState) (d : SolverCx Handler) : Type 0 where
    pub depth : graph_left.root_depth ≡ graph.root_depth
    pub keeps : Search.KeepsContext (solver_meaning handler) c d
    pub entries : Keeps (entries_of c) (entries_of d)

  -- Goals over a table can be traced.
  pub record IsWalkable (graph : SearchState) (ks : KnownAnswers) (c : SolverCx Handler) (t : Table) (rs : List TraitRef) : Type 0 where
    pub askable : WalkIsAskable graph ks c
    pub table : Ready (entries_of c) t
    pub references : ReferencesHeld (entries_of c) rs

  -- What a trace preserves: what a search does, and all that the table had.
  pub record HasWalked (graph : SearchState) (c : SolverCx Handler) (t : Table) (graph_left : SearchState) (d : SolverCx Handler) (u : Table) : Type 0 where
    pub asked : WalkHasAsked graph c graph_left d
    pub grows : Grows t u
