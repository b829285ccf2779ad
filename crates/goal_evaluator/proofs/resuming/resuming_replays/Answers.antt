use Rattle.goal_evaluator.proofs.OpenBeginnings.{resuming-replays, beginning-replays}
use Rattle.goal_evaluator.proofs.resuming.resuming_replays.Goals as goal

pub returns-clause-begins : goal.returns-clause-begins
returns-clause-begins c = beginning-replays

pub returns-clause-goes_on : goal.returns-clause-goes_on
returns-clause-goes_on c = resuming-replays
