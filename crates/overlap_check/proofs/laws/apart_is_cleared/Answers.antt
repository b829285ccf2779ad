use Rattle.overlap_check.proofs.Contracts.{apart-cleared}
use Rattle.overlap_check.proofs.laws.apart_is_cleared.Goals as goal

pub returns : goal.returns
returns c = apart-cleared
