use Rattle.goal_evaluator.proofs.Ends.{ignores_finished}
use Rattle.goal_evaluator.proofs.promises.ignores_finished_once.Goals as goal

pub returns : goal.returns
returns g c = λ goal. let t = g.E.Evaluation.tables in let h = g.E.Evaluation.handled goal in let law = c.requires.handler goal in ignores_finished t h law
