use Rattle.goal_evaluator.proofs.Correspondences.{rounds_correspond}
use Rattle.goal_evaluator.proofs.promises.rounds_correspond.Goals as goal

pub returns : goal.returns
returns g c = rounds_correspond g.C.CorrespondingOperations.one g.C.CorrespondingOperations.other g.C.CorrespondingOperations.correspondence c.requires
