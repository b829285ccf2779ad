use Rattle.goal_evaluator.proofs.resuming.Evaluation.+go_on.Given as goal

-- fewer rounds may come
abbrev pub decreases-go_on : goal.decreases-go_on
decreases-go_on l = l.rounds_left
