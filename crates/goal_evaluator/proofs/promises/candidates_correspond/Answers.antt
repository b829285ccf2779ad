use Rattle.goal_evaluator.proofs.Correspondences.{candidates_correspond}
use Rattle.goal_evaluator.proofs.promises.candidates_correspond.Goals as goal

pub returns : goal.returns
returns g c = candidates_correspond g.C.CorrespondingWorkings.one g.C.CorrespondingWorkings.other g.C.CorrespondingWorkings.correspondence c.requires
