use Rattle.std.proofs.Common.{◌≡◌, length}
use Rattle.text_language.specs.Promised.Faults.{repeats}
use Rattle.text_lines.specs.LineLists.{bindings_in}
use Rattle.text_lines.specs.TypedLines.{bound_names}
use Rattle.text_lines.specs.WrittenViews.{entries_in}
use Rattle.text_lines.proofs.typed_line.binds_again.Given as goal

abbrev pub invariant-loop-rest : goal.invariant-loop-rest
invariant-loop-rest l = repeats (bound_names (bindings_in (entries_in l.rest))) ≡ repeats (bound_names (bindings_in (entries_in l.entries)))

abbrev pub decreases-loop-rest : goal.decreases-loop-rest
decreases-loop-rest l = length l.rest
