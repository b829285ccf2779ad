use Rattle.type_terms.proofs.CoreApart.{core-coherent}
use Rattle.type_terms.proofs.laws.core_is_coherent.Goals as goal

pub returns : goal.returns
returns c = core-coherent
