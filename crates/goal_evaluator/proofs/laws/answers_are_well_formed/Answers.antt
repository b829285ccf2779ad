use Rattle.goal_evaluator.proofs.WellFormed.{answers_well_formed, answers_to_own_goal}
use Rattle.goal_evaluator.proofs.laws.answers_are_well_formed.Goals as goal

pub returns-clause-well_formed : goal.returns-clause-well_formed
returns-clause-well_formed c = answers_well_formed

pub returns-clause-own_goal : goal.returns-clause-own_goal
returns-clause-own_goal c = answers_to_own_goal
