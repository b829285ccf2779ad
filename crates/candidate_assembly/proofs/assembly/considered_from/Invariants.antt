use Rattle.std.proofs.Common.{◌≡◌, ◌+◌, ◌≤◌, drop}
use Rattle.candidate_assembly.specs.Counted.{is_of, count_from}
use Rattle.candidate_assembly.proofs.assembly.considered_from.Given as goal

abbrev pub invariant-done : goal.invariant-done
invariant-done l =
    (l.count + count_from (is_of l.fn.misc_is_bound l.fn.section) (drop l.considered-index l.fn.done) ≡ count_from (is_of l.fn.misc_is_bound l.fn.section) l.fn.done) × (l.count ≤ l.considered-index)
