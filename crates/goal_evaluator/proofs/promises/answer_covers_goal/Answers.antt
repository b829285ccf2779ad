use Rattle.goal_evaluator.proofs.Ends.{covers_goal}
use Rattle.goal_evaluator.proofs.promises.answer_covers_goal.Goals as goal

pub returns : goal.returns
returns g c = λ goal. let t = g.E.Evaluation.tables in let laws = c.requires.tables in let h = g.E.Evaluation.handled goal in let law = c.requires.handler goal in covers_goal t laws h law
