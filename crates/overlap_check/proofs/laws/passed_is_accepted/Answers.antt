use Rattle.overlap_check.proofs.Contracts.{passed-accepted}
use Rattle.overlap_check.proofs.laws.passed_is_accepted.Goals as goal

pub returns : goal.returns
returns c = passed-accepted
