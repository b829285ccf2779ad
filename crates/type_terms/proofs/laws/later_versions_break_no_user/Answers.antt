use Rattle.type_terms.proofs.NoTwo.{later-version}
use Rattle.type_terms.proofs.laws.later_versions_break_no_user.Goals as goal

pub returns : goal.returns
returns c = λ W vs rank l. later-version W vs rank l.joined
