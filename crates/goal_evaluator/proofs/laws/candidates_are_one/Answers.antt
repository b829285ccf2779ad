use Rattle.goal_evaluator.proofs.Candidates.{candidates-are-one}
use Rattle.goal_evaluator.proofs.laws.candidates_are_one.Goals as goal

pub returns : goal.returns
returns c = candidates-are-one
