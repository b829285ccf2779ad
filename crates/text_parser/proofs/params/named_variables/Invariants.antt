use Rattle.std.proofs.Common.{◌≡◌, ◌++◌, map, length}
use Rattle.text_names.specs.Views.{variable_in}
use Rattle.text_tables.specs.Views.{sorted_params}
use Rattle.text_parser.proofs.params.named_variables.Given as goal

abbrev pub invariant-loop-rest : goal.invariant-loop-rest
invariant-loop-rest l = sorted_params l.named.items ++ map variable_in l.rest ≡ map variable_in l.variables

abbrev pub decreases-loop-rest : goal.decreases-loop-rest
decreases-loop-rest l = length l.rest
