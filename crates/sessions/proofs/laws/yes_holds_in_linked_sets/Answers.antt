use Rattle.sessions.proofs.Entailment.{yes-holds}
use Rattle.sessions.proofs.laws.yes_holds_in_linked_sets.Goals as goal

pub returns : goal.returns
returns c = yes-holds
