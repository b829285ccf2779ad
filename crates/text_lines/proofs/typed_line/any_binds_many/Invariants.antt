use Rattle.std.proofs.Common.{◌≡◌, length}
use Rattle.std.specs.List.{list_any}
use Rattle.text_lines.specs.TypedLines.{binds_many}
use Rattle.text_lines.specs.WrittenViews.{bounds_in}
use Rattle.text_lines.proofs.typed_line.any_binds_many.Given as goal

abbrev pub invariant-loop-rest : goal.invariant-loop-rest
invariant-loop-rest l = list_any binds_many (bounds_in l.rest) ≡ list_any binds_many (bounds_in l.bounds)

abbrev pub decreases-loop-rest : goal.decreases-loop-rest
decreases-loop-rest l = length l.rest
