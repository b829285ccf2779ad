use Rattle.std.proofs.Common.{◌≤◌}
use Rattle.explain_diagnostics.proofs.proof_tree.goal_columns.Given as goal

abbrev pub invariant-loop-row : goal.invariant-loop-row
invariant-loop-row l = l.columns ≤ 60
