use Rattle.std.proofs.Common.{length, ◌-◌, ◌≤◌}
use Rattle.explain_diagnostics.proofs.parts.find_outside.Given as goal

abbrev pub invariant-loop-at : goal.invariant-loop-at
invariant-loop-at l = (l.initial.at ≤ l.at) × (l.at ≤ length l.tokens)

abbrev pub decreases-loop-at : goal.decreases-loop-at
decreases-loop-at l = length l.tokens - l.at
