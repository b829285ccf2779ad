-- What is true of a session between two calls.
use Rattle.std.specs.Prelude.{◌≡◌, ◌<◌, ℕ, List, length}
use Rattle.type_terms.specs.Promised.Handles.{Entry}
use Rattle.search_graph.specs.SearchState.{SearchState}
use Rattle.declarations.specs.Items.{Items, written, declared}
use Rattle.text_language.specs.Promised.Declarations.{Declarations}
use Rattle.text_lowering.specs.Promised.SeenWorlds.{plainly_seen_from}
use Rattle.text_lowering.specs.Seen.{rules_seen_from}
use Rattle.text_lowering.specs.Ready.{AreSeen}
use Rattle.goal_frames.specs.Stores.{limit_of}
use Rattle.solver_graph.specs.declared.context.SolverCx.{SolverCx}
use Rattle.solver_graph.specs.Contexts.{entries_of}
use Rattle.candidate_assembly.specs.declared.solver.Solver.{Solver}
use Rattle.candidate_assembly.specs.Fitting.{solving_of}
use Rattle.candidate_assembly.specs.Solving.{Solving}
use Rattle.candidate_assembly.specs.SolverMeaning.{solver_by_view}
use Rattle.sessions.specs.Resting.{Cached, AreAtRest}
use Rattle.sessions.specs.Promised.Subjects.{IsOfText}

-- The solver's context, graph and cache are at rest.
abbrev pub SolverRests : ℕ → SolverCx Solver → SearchState → Cached → Type 0
SolverRests depth cx graph cache =
    AreAtRest solver_by_view depth cx graph cache

-- The solver's declarations are what crate c sees of the text, as they are written and as rules are read from them.
pub record SolvesView (d : Declarations) (c : ℕ) (cx : SolverCx Solver) : Type 0 where
  pub written : written (entries_of cx) cx.handler.declarations ≡ plainly_seen_from d c
  pub rules : declared (entries_of cx) cx.handler.declarations ≡ rules_seen_from d c
  pub local : cx.handler.declarations.local ≡ c

-- The declarations of the solver are what crate c sees of the text, with the kinds of its parameters.
pub record IsSolvingOf (d : Declarations) (c : ℕ) (s : Solving) : Type 0 where
  pub entries : List Entry
  pub declarations : Items
  pub seen : AreSeen entries declarations d c
  pub local : declarations.local ≡ c
  pub is : s ≡ solving_of entries declarations

-- The declarations are a text's, the crate is one of theirs, its view is what the solver solves by, and everything is at rest.
pub record IsSession (d : Declarations) (c depth : ℕ) (cx : SolverCx Solver) (graph : SearchState) (cache : Cached) : Type 0 where
  pub text : IsOfText d
  pub declared : c < length d.crates
  pub view : SolvesView d c cx
  pub solving : IsSolvingOf d c (solving_of (entries_of cx) cx.handler.declarations)
  pub rest : SolverRests depth cx graph cache

-- The interner and the store hold at most as much as the session's limit.
pub record HasLimits (handles : ℕ) (cx : SolverCx Solver) : Type 0 where
  pub terms : cx.interner.limit ≡ handles
  pub kept : limit_of cx.store ≡ handles

-- It is a session, within its limits.
pub record IsSessionWithin (d : Declarations) (c depth handles : ℕ) (cx : SolverCx Solver) (graph : SearchState) (cache : Cached) : Type 0 where
  pub session : IsSession d c depth cx graph cache
  pub limits : HasLimits handles cx
