use Rattle.std.proofs.Common.{◌≡◌, ◌++◌, map, length}
use Rattle.text_lines.specs.Views.{params_in}
use Rattle.text_tables.specs.Views.{sorts_of}
use Rattle.text_parser.specs.BareLines.{sort_of_param}
use Rattle.text_parser.proofs.params.kinds_of.Given as goal

abbrev pub invariant-loop-rest : goal.invariant-loop-rest
invariant-loop-rest l = sorts_of l.kinds.items ++ map sort_of_param (params_in l.rest) ≡ map sort_of_param (params_in l.params)

abbrev pub decreases-loop-rest : goal.decreases-loop-rest
decreases-loop-rest l = length l.rest
