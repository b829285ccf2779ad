use Rattle.std.proofs.Common.{◌≡◌, ◌++◌, length}
use Rattle.built_in_candidates.specs.Unsizing.{replaced}
use Rattle.built_in_candidates.proofs.unsize_struct.with_unsizing.Given as goal

abbrev pub invariant-flags : goal.invariant-flags
invariant-flags l = l.found.items ++ replaced l.left l.own l.others ≡ replaced l.fn.flags l.fn.args l.fn.target

abbrev pub decreases-flags : goal.decreases-flags
decreases-flags l = length l.left
