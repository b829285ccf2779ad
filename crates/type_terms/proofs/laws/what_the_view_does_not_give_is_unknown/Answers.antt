use Rattle.type_terms.proofs.ViewLaws.{view-gives-or-unknown}
use Rattle.type_terms.proofs.laws.what_the_view_does_not_give_is_unknown.Goals as goal

pub returns : goal.returns
returns c = view-gives-or-unknown
