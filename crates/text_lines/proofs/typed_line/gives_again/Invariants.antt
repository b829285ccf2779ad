use Rattle.std.proofs.Common.{◌≡◌, length}
use Rattle.text_language.specs.Promised.Faults.{repeats}
use Rattle.text_lines.specs.TypedLines.{bound_names}
use Rattle.text_lines.specs.WrittenViews.{bindings_in}
use Rattle.text_lines.proofs.typed_line.gives_again.Given as goal

abbrev pub invariant-loop-rest : goal.invariant-loop-rest
invariant-loop-rest l = repeats (bound_names (bindings_in l.rest)) ≡ repeats (bound_names (bindings_in l.given))

abbrev pub decreases-loop-rest : goal.decreases-loop-rest
decreases-loop-rest l = length l.rest
