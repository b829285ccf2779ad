use Rattle.goal_evaluator.proofs.rounds.+rounds.Given as goal

abbrev pub decreases-rounds : goal.decreases-rounds
decreases-rounds l = l.limit
