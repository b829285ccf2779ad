use Rattle.type_terms.proofs.CoreLinked.{core-linked}
use Rattle.type_terms.proofs.laws.core_is_linked.Goals as goal

pub returns : goal.returns
returns c = core-linked
