use Rattle.std.proofs.Common.{length}
use Rattle.type_terms.specs.Promised.Handles.{ArgsHeld}
use Rattle.explain_traces.proofs.opening.are_unbound.Given as goal

abbrev pub invariant-leaves : goal.invariant-leaves
invariant-leaves l = ArgsHeld l.cx.entries l.left

abbrev pub decreases-leaves : goal.decreases-leaves
decreases-leaves l = length l.left
