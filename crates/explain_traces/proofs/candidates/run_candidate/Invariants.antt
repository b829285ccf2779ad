use Rattle.solver_graph.specs.Searching.{steps_left}
use Rattle.explain_traces.specs.Frames.{IsWalked}
use Rattle.explain_traces.specs.Walking.{WalkIsAskable, WalkHasAsked}
use Rattle.explain_traces.proofs.candidates.run_candidate.Given as goal

abbrev pub invariant-loop-input : goal.invariant-loop-input
invariant-loop-input g l = record {
  askable : WalkIsAskable g.H.GoalHandler.meaning l.search.graph l.search.cache l.search.cx;
  asked : WalkHasAsked g.H.GoalHandler.meaning l.fn.search.graph l.fn.search.cx l.search.graph l.search.cx;
  walked : IsWalked g.H.GoalHandler.meaning l.search.cx l.walk;
}

abbrev pub decreases-loop-input : goal.decreases-loop-input
decreases-loop-input g l = steps_left g.H.GoalHandler.meaning l.search.cx l.walk.frame
