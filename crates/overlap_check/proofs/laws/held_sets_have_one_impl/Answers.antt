use Rattle.overlap_check.proofs.Contracts.{held-headline}
use Rattle.overlap_check.proofs.laws.held_sets_have_one_impl.Goals as goal

pub returns : goal.returns
returns c = held-headline
