use Rattle.std.proofs.Common.{length}
use Rattle.goal_evaluator.proofs.response.+is_identity_from.Given as goal

abbrev pub decreases-is_identity_from : goal.decreases-is_identity_from
decreases-is_identity_from l = length l.var_values.now
