use Rattle.type_terms.proofs.TermWalks.{open-walk-erased, orphan-rule-erased, known-in-erased, known-erased}
use Rattle.type_terms.proofs.laws.walks_skip_lifetimes.Goals as goal

pub returns : goal.returns
returns c = λ W k r. (open-walk-erased W r, orphan-rule-erased W k r, known-in-erased W k r, known-erased W k r)
