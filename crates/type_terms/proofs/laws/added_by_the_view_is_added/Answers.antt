use Rattle.type_terms.proofs.AddedByView.{added-in-set}
use Rattle.type_terms.proofs.laws.added_by_the_view_is_added.Goals as goal

pub returns : goal.returns
returns c = λ W vs rank l. added-in-set W vs rank l.joined
