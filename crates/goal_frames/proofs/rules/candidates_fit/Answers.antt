use Rattle.goal_frames.proofs.RuleFitting.{candidates-fit}
use Rattle.goal_frames.proofs.rules.candidates_fit.Goals as goal

pub returns : goal.returns
returns c = candidates-fit
