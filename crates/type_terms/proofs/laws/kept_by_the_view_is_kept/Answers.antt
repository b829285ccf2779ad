use Rattle.type_terms.proofs.AddedByView.{kept-in-set}
use Rattle.type_terms.proofs.laws.kept_by_the_view_is_kept.Goals as goal

pub returns : goal.returns
returns c = λ W vs rank l. kept-in-set W vs rank l.joined
