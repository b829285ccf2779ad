use Rattle.type_terms.proofs.ViewLaws.{no-two-of-accepted}
use Rattle.type_terms.proofs.laws.no_two_impls.Goals as goal

pub returns : goal.returns
returns c = no-two-of-accepted
