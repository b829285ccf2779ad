use Rattle.type_terms.proofs.NoTwo.{no-common-instance}
use Rattle.type_terms.proofs.laws.unrelated_impls_do_not_overlap.Goals as goal

pub returns : goal.returns
returns c = λ W vs rank l. no-common-instance W vs rank l.joined
