use Rattle.type_terms.specs.Growth.{Grew}
use Rattle.explain_traces.specs.Walking.{GoalsHeld}
use Rattle.explain_traces.proofs.opening.fill_goals.Given as goal

abbrev pub invariant-loop-nested : goal.invariant-loop-nested
invariant-loop-nested l = record {
  grew : Grew l.fn.cx l.cx;
  held : GoalsHeld l.cx.entries l.filled.items;
}
