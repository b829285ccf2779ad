use Rattle.std.proofs.Common.{◌≤◌}
use Rattle.explain_diagnostics.proofs.excerpt.marked_place.Given as goal

abbrev pub invariant-loop-label : goal.invariant-loop-label
invariant-loop-label l = l.end ≤ l.length
