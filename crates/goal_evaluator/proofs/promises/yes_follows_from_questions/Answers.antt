use Rattle.goal_evaluator.proofs.Systems.{yes_follows_from}
use Rattle.goal_evaluator.proofs.promises.yes_follows_from_questions.Goals as goal

pub returns : goal.returns
returns g c = yes_follows_from g.S.GoalSystem.tables c.requires.tables g.S.GoalSystem.system c.requires.handlers
