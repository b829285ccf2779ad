use Rattle.std.proofs.Common.{length, ◌-◌}
use Rattle.explain_diagnostics.proofs.parts.list_places.Given as goal

abbrev pub decreases-loop-at : goal.decreases-loop-at
decreases-loop-at l = length l.tokens - l.at
