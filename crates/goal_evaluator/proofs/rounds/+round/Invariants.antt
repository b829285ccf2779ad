use Rattle.std.proofs.Common.{length}
use Rattle.goal_evaluator.proofs.rounds.+round.Given as goal

-- fewer goals are left to ask
abbrev pub decreases-round : goal.decreases-round
decreases-round l = length l.goals.now
