use Rattle.goal_evaluator.proofs.Ends.{keeps_number}
use Rattle.goal_evaluator.proofs.promises.frame_keeps_number.Goals as goal

pub returns : goal.returns
returns g c = λ goal. let t = g.E.Evaluation.tables in let laws = c.requires.tables in let h = g.E.Evaluation.handled goal in let law = c.requires.handler goal in keeps_number t laws h law
