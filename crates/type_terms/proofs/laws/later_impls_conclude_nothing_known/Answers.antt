use Rattle.type_terms.proofs.LaterVersions.{later-unknown}
use Rattle.type_terms.proofs.laws.later_impls_conclude_nothing_known.Goals as goal

pub returns : goal.returns
returns c = later-unknown
