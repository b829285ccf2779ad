use Rattle.goal_evaluator.proofs.Ends.{is_bounded}
use Rattle.goal_evaluator.proofs.promises.frame_is_bounded.Goals as goal

pub returns : goal.returns
returns g c = λ goal. let t = g.E.Evaluation.tables in let h = g.E.Evaluation.handled goal in let law = c.requires.handler goal in is_bounded t h law
