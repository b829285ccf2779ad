use Rattle.type_terms.proofs.Applies.{same-complete}
use Rattle.type_terms.proofs.Matching.{same-sound}
use Rattle.type_terms.proofs.laws.same_is_equal.Goals as goal

pub returns : goal.returns
returns c = λ x y. (same-sound x y, same-complete x y)
