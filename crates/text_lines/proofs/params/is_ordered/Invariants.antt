use Rattle.std.proofs.Common.{◌≡◌, length}
use Rattle.text_lines.specs.Parts.{is_ordered_from}
use Rattle.text_lines.specs.Views.{params_in}
use Rattle.text_lines.proofs.params.is_ordered.Given as goal

abbrev pub invariant-loop-rest : goal.invariant-loop-rest
invariant-loop-rest l = is_ordered_from l.least (params_in l.rest) ≡ is_ordered_from 0 (params_in l.params)

abbrev pub decreases-loop-rest : goal.decreases-loop-rest
decreases-loop-rest l = length l.rest
