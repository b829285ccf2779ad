use Rattle.sessions.proofs.ExactRefusals.{refusals-are-exact}
use Rattle.sessions.proofs.OpenPairs.{open-pair-goals-are-possible}
use Rattle.sessions.proofs.laws.open_pair_goals_are_possible.Goals as goal

pub returns : goal.returns
returns c = open-pair-goals-are-possible refusals-are-exact
