use Rattle.overlap_check.proofs.Contracts.{refused-real}
use Rattle.overlap_check.proofs.laws.refused_is_real.Goals as goal

pub returns : goal.returns
returns c = refused-real
