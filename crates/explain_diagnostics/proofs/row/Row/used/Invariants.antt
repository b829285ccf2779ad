use Rattle.std.proofs.Common.{◌≤◌}
use Rattle.explain_diagnostics.proofs.row.Row.used.Given as goal

abbrev pub invariant-loop-place : goal.invariant-loop-place
invariant-loop-place l = l.used ≤ l.place
