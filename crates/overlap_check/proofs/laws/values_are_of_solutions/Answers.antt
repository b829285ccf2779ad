use Rattle.overlap_check.proofs.Posed.{values-are-of-solutions}
use Rattle.overlap_check.proofs.laws.values_are_of_solutions.Goals as goal

pub returns : goal.returns
returns c = values-are-of-solutions
