use Rattle.type_terms.proofs.NoTwo.{unseen-unknown}
use Rattle.type_terms.proofs.laws.unseen_impls_conclude_nothing_known.Goals as goal

pub returns : goal.returns
returns c = λ W vs rank l. unseen-unknown W vs rank l.joined
