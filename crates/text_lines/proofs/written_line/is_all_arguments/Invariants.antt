use Rattle.std.proofs.Common.{◌≡◌, length}
use Rattle.text_lines.specs.WrittenParts.{is_all_arguments}
use Rattle.text_lines.specs.WrittenViews.{entries_in}
use Rattle.text_lines.proofs.written_line.is_all_arguments.Given as goal

abbrev pub invariant-loop-rest : goal.invariant-loop-rest
invariant-loop-rest l = is_all_arguments (entries_in l.rest) ≡ is_all_arguments (entries_in l.entries)

abbrev pub decreases-loop-rest : goal.decreases-loop-rest
decreases-loop-rest l = length l.rest
