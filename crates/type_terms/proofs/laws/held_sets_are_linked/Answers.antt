use Rattle.type_terms.proofs.HeldSets.{held-linked}
use Rattle.type_terms.proofs.laws.held_sets_are_linked.Goals as goal

pub returns : goal.returns
returns c = held-linked
