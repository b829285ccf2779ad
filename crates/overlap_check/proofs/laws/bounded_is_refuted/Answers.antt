use Rattle.overlap_check.proofs.Contracts.{bounded-refuted}
use Rattle.overlap_check.proofs.laws.bounded_is_refuted.Goals as goal

pub returns : goal.returns
returns c = bounded-refuted
