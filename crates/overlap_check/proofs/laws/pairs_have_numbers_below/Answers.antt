use Rattle.overlap_check.proofs.PairLists.{pairs-below}
use Rattle.overlap_check.proofs.laws.pairs_have_numbers_below.Goals as goal

pub returns : goal.returns
returns c = pairs-below
