use Rattle.std.proofs.Common.{◌≡◌, ◌++◌, map, length}
use Rattle.text_lines.specs.Views.{params_in}
use Rattle.text_tables.specs.Views.{sorted_params}
use Rattle.text_parser.specs.BareLines.{sorted_param}
use Rattle.text_parser.proofs.params.named_params.Given as goal

abbrev pub invariant-loop-rest : goal.invariant-loop-rest
invariant-loop-rest l = sorted_params l.named.items ++ map sorted_param (params_in l.rest) ≡ map sorted_param (params_in l.params)

abbrev pub decreases-loop-rest : goal.decreases-loop-rest
decreases-loop-rest l = length l.rest
