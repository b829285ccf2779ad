use Rattle.type_terms.proofs.ViewLaws.{no-in-set}
use Rattle.type_terms.proofs.laws.no_holds.Goals as goal

pub returns : goal.returns
returns c = no-in-set
