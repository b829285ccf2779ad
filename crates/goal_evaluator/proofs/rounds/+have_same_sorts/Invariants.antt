use Rattle.std.proofs.Common.{length}
use Rattle.goal_evaluator.proofs.rounds.+have_same_sorts.Given as goal

abbrev pub decreases-have_same_sorts : goal.decreases-have_same_sorts
decreases-have_same_sorts l = length l.values.now
