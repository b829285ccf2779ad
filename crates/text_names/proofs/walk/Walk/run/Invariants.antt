use Rattle.text_names.specs.Machine.{WalkState, WalkReaches}
use Rattle.text_names.specs.WalkViews.{state_in}
use Rattle.text_names.proofs.Weights.{weight}
use Rattle.text_names.proofs.walk.Walk.run.Given as goal

abbrev pub invariant-loop-next : goal.invariant-loop-next
invariant-loop-next g l = record {
  so_far : (y : WalkState) → WalkReaches (g.N.Names.sight l.names) (state_in l.next l.self) y → WalkReaches (g.N.Names.sight l.names) (state_in l.fn.first l.fn.self) y;
}

abbrev pub decreases-loop-next : goal.decreases-loop-next
decreases-loop-next g l = weight (state_in l.next l.self)
