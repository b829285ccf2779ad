-- What a session leaves for the next session of its crate.
use Rattle.std.specs.Prelude.{◌<◌, ℕ, length}
use Rattle.text_language.specs.Promised.Declarations.{Declarations}
use Rattle.goal_frames.specs.Stores.{kept_inputs, kept_responses}
use Rattle.solver_graph.specs.Contexts.{entries_of}
use Rattle.candidate_assembly.specs.Fitting.{solving_of}
use Rattle.sessions.specs.Promised.Subjects.{Subject}
use Rattle.sessions.specs.Sessions.{HasLimits, IsSolvingOf, SolverRests, SolvesView}
use Rattle.sessions.specs.SeenViews.{IsViewOf}
use Rattle.sessions.specs.declared.seen_view.SeenView.{SeenView}
use Rattle.sessions.specs.declared.left_session.LeftSession.{LeftSession}

-- All that is true of a session on these declarations between two calls, but that a text declares them: what its crate sees is what the
-- solver solves by, and everything is at rest. None of it is about queries.
pub record IsLeftSession (d : Declarations) (depth handles : ℕ) (left : LeftSession) : Type 0 where
  pub declared : left.crate_id.index < length d.crates
  pub view : SolvesView d left.crate_id.index left.search.cx
  pub solving : IsSolvingOf d left.crate_id.index (solving_of (entries_of left.search.cx) left.search.cx.handler.declarations)
  pub rest : SolverRests depth left.search.cx left.search.graph left.search.cache
  pub limits : HasLimits handles left.search.cx

-- What the next session of its crate is about, on these declarations and with these limits.
abbrev pub subject_after : Declarations → ℕ → ℕ → LeftSession → Subject
subject_after d depth handles left = record {
  declarations = d;
  of_crate = left.crate_id.index;
  depth = depth;
  handles = handles;
  terms = entries_of left.search.cx;
  goals = length (kept_inputs left.search.cx.store);
  answers = length (kept_responses left.search.cx.store);
  frames = left.search.graph.frames;
}

-- The view is what the crate of a left session sees, of each text on which that is a session that was left.
abbrev pub LeavesView : LeftSession → SeenView → Type 0
LeavesView left view = (d : Declarations) (depth handles : ℕ) → IsLeftSession d depth handles left → IsViewOf d left.crate_id.index handles view

-- It is a session that was left, of each text on which it was one.
abbrev pub StaysLeft : LeftSession → LeftSession → Type 0
StaysLeft old new = (d : Declarations) (depth handles : ℕ) → IsLeftSession d depth handles old → IsLeftSession d depth handles new
