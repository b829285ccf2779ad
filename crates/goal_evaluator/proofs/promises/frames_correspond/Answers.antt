use Rattle.goal_evaluator.proofs.Correspondences.{frames_correspond}
use Rattle.goal_evaluator.proofs.promises.frames_correspond.Goals as goal

pub returns : goal.returns
returns g c = frames_correspond g.C.CorrespondingWorkings.one g.C.CorrespondingWorkings.other g.C.CorrespondingWorkings.correspondence c.requires
