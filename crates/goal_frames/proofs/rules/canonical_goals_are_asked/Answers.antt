use Rattle.goal_frames.proofs.Forms.{canonical-goals-are-asked}
use Rattle.goal_frames.proofs.rules.canonical_goals_are_asked.Goals as goal

pub returns : goal.returns
returns c = canonical-goals-are-asked
