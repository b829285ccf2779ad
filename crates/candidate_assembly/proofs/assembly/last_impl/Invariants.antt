use Rattle.std.proofs.Common.{◌≡◌, None, length}
use Rattle.candidate_assembly.specs.Counted.{last_from}
use Rattle.candidate_assembly.proofs.assembly.last_impl.Given as goal

abbrev pub invariant-done : goal.invariant-done
invariant-done l = last_from None l.left ≡ last_from None l.fn.done

abbrev pub decreases-done : goal.decreases-done
decreases-done l = length l.left
