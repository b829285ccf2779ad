use Rattle.goal_evaluator.proofs.FrameTableLaws.{tables_are_lawful}
use Rattle.goal_evaluator.proofs.laws.tables_are_lawful.Goals as goal

pub returns : goal.returns
returns c = tables_are_lawful
