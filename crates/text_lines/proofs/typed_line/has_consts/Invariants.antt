use Rattle.std.proofs.Common.{◌≡◌, length}
use Rattle.text_lines.specs.TypedLines.{has_consts}
use Rattle.text_lines.specs.Views.{params_in}
use Rattle.text_lines.proofs.typed_line.has_consts.Given as goal

abbrev pub invariant-loop-rest : goal.invariant-loop-rest
invariant-loop-rest l = has_consts (params_in l.rest) ≡ has_consts (params_in l.params)

abbrev pub decreases-loop-rest : goal.decreases-loop-rest
decreases-loop-rest l = length l.rest
