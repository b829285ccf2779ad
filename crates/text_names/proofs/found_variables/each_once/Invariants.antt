use Rattle.std.proofs.Common.{ℕ, List}
use Rattle.text_names.specs.UsedNames.{Holds}
use Rattle.text_names.proofs.Firsts.{Firsts}
use Rattle.text_names.proofs.found_variables.each_once.Given as goal

abbrev pub invariant-loop-variable : goal.invariant-loop-variable
invariant-loop-variable l = (seen : List (List ℕ)) × Holds l.met seen × Firsts l.variables l.variable-index l.firsts.items seen
