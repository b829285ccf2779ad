use Rattle.goal_evaluator.proofs.Ends.{yes_follows}
use Rattle.goal_evaluator.proofs.promises.definite_yes_follows.Goals as goal

pub returns : goal.returns
returns g c = λ goal. let t = g.E.Evaluation.tables in let laws = c.requires.tables in let h = g.E.Evaluation.handled goal in let law = c.requires.handler goal in yes_follows t laws h law
