use Rattle.std.proofs.Common.{length}
use Rattle.built_in_candidates.proofs.Pairs.{Pairs}
use Rattle.built_in_candidates.proofs.relate.paired_args.Given as goal

abbrev pub invariant-pairs : goal.invariant-pairs
invariant-pairs l = Pairs l.fn.first l.fn.second l.xs l.ys l.found.items

abbrev pub decreases-pairs : goal.decreases-pairs
decreases-pairs l = length l.xs
