use Rattle.sessions.proofs.PairGoals.{pair-goals-are-formed}
use Rattle.sessions.proofs.laws.pair_goals_are_formed.Goals as goal

pub returns : goal.returns
returns c = pair-goals-are-formed
