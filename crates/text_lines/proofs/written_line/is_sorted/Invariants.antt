use Rattle.std.proofs.Common.{◌≡◌, false, length}
use Rattle.text_lines.specs.WrittenParts.{is_sorted_after}
use Rattle.text_lines.specs.WrittenViews.{entries_in}
use Rattle.text_lines.proofs.written_line.is_sorted.Given as goal

abbrev pub invariant-loop-rest : goal.invariant-loop-rest
invariant-loop-rest l = is_sorted_after l.after_binding (entries_in l.rest) ≡ is_sorted_after false (entries_in l.entries)

abbrev pub decreases-loop-rest : goal.decreases-loop-rest
decreases-loop-rest l = length l.rest
