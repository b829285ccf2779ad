use Rattle.type_terms.proofs.ViewLaws.{carries-over}
use Rattle.type_terms.proofs.laws.renumbering_carries_over.Goals as goal

pub returns : goal.returns
returns c = carries-over
