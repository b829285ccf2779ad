use Rattle.overlap_check.proofs.Contracts.{headline}
use Rattle.overlap_check.proofs.laws.accepted_sets_have_one_impl.Goals as goal

pub returns : goal.returns
returns c = headline
