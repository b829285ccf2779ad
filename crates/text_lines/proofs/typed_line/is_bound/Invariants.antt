use Rattle.std.proofs.Common.{◌≡◌, length}
use Rattle.text_language.specs.Promised.Faults.{is_among}
use Rattle.text_lines.specs.LineLists.{bindings_in}
use Rattle.text_lines.specs.TypedLines.{bound_names}
use Rattle.text_lines.specs.WrittenViews.{entries_in}
use Rattle.text_lines.proofs.typed_line.is_bound.Given as goal

abbrev pub invariant-loop-rest : goal.invariant-loop-rest
invariant-loop-rest l = is_among l.name (bound_names (bindings_in (entries_in l.rest))) ≡ is_among l.name (bound_names (bindings_in (entries_in l.entries)))

abbrev pub decreases-loop-rest : goal.decreases-loop-rest
decreases-loop-rest l = length l.rest
