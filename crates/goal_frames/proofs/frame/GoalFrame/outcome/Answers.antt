use Rattle.std.proofs.Common.{sym}
use Rattle.goal_frames.proofs.frame.GoalFrame.outcome.Goals as goal

pub returns-in-Finishing : goal.returns-in-Finishing
returns-in-Finishing c = (c.in-Finishing.result, c.in-Finishing.is, sym c.certainty_of.ensures)
