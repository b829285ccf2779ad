use Rattle.goal_frames.proofs.HandlerPrograms.{handlers-are-programs}
use Rattle.goal_frames.proofs.handler.handlers_are_programs.Goals as goal

pub returns : goal.returns
returns g c = handlers-are-programs g.H.GoalHandler.meaning.goals g.met.H.GoalHandler.lawful.goals
