use Rattle.goal_evaluator.proofs.RoundLaws.{rounds-are-one, rounds-end-alike}
use Rattle.goal_evaluator.proofs.laws.rounds_are_one.Goals as goal

pub returns-clause-steps : goal.returns-clause-steps
returns-clause-steps c = rounds-are-one

pub returns-clause-ends : goal.returns-clause-ends
returns-clause-ends c = rounds-end-alike
