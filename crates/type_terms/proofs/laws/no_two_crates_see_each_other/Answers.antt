use Rattle.type_terms.proofs.NoTwo.{one-way}
use Rattle.type_terms.proofs.laws.no_two_crates_see_each_other.Goals as goal

pub returns : goal.returns
returns c = λ W vs rank l. one-way W vs rank l.joined
