use Rattle.type_terms.proofs.ViewLaws.{proved-in-set}
use Rattle.type_terms.proofs.laws.proofs_by_the_view_hold.Goals as goal

pub returns : goal.returns
returns c = proved-in-set
