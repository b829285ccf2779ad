use Rattle.goal_evaluator.proofs.Systems.{graphs_prove}
use Rattle.goal_evaluator.proofs.promises.graph_has_proof.Goals as goal

pub returns : goal.returns
returns g c = graphs_prove g.S.GoalSystem.tables g.S.GoalSystem.system c.requires
