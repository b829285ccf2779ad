use Rattle.std.proofs.Common.{◌≡◌, ◌++◌, length}
use Rattle.text_lines.specs.LineLists.{with_value}
use Rattle.text_lines.specs.Views.{params_in}
use Rattle.text_lines.proofs.line_lists.with_value.Given as goal

abbrev pub invariant-loop-rest : goal.invariant-loop-rest
invariant-loop-rest l = params_in l.all.items ++ with_value (params_in l.rest) ≡ with_value (params_in l.params)

abbrev pub decreases-loop-rest : goal.decreases-loop-rest
decreases-loop-rest l = length l.rest
