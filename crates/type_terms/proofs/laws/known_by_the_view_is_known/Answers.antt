use Rattle.type_terms.proofs.ViewLaws.{known-in-set}
use Rattle.type_terms.proofs.laws.known_by_the_view_is_known.Goals as goal

pub returns : goal.returns
returns c = known-in-set
