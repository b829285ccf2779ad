-- Frames that run outside a search.
use Rattle.std.specs.Prelude.{◌≡◌, List, ◌∷◌, Option}
use Rattle.search_graph.specs.Meaning.{IsRequest, request_of, has_open_candidate, finished}
use Rattle.search_graph.specs.declared.delegate.Reply.{Reply}
use Rattle.infer_table.specs.Responses.{AnswerTrees}
use Rattle.goal_frames.specs.Meanings.{HandlerMeaning}
use Rattle.solver_graph.specs.Contexts.{Asked}
use Rattle.solver_graph.specs.Searching.{solver_meaning, FrameHasHeard, world_in}
use Rattle.solver_graph.specs.declared.context.SolverCx.{SolverCx}
use Rattle.explain_traces.specs.declared.frames.FrameWalk.{FrameWalk}

module _ {Handler : Type 0} (handler : HandlerMeaning Handler) where
  -- The frame of some goal has had replies that were due, and makes this request; one of its candidates is open, or none, and this many are
  -- finished.
  pub record IsWalked (c : SolverCx Handler) (w : FrameWalk) : Type 0 where
    pub goal : Asked
    pub last : Reply (Option AnswerTrees)
    pub heard : List (Reply (Option AnswerTrees))
    pub hears : FrameHasHeard handler c goal (last ∷ heard) w.frame
    pub known : IsRequest (solver_meaning handler) c w.request
    pub asks : request_of (solver_meaning handler) c w.request ≡ (solver_meaning handler).asks (world_in handler c) goal (last ∷ heard)
    pub opened : w.candidates.open ≡ has_open_candidate (solver_meaning handler) (last ∷ heard)
    pub listed : w.candidates.finished.items ≡ finished (solver_meaning handler) (world_in handler c) goal (last ∷ heard)
