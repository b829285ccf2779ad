use Rattle.overlap_check.proofs.Contracts.{decided-answered}
use Rattle.overlap_check.proofs.laws.decided_is_answered.Goals as goal

pub returns : goal.returns
returns c = decided-answered
