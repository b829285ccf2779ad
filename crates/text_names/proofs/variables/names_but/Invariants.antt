use Rattle.std.proofs.Common.{◌≤◌, length, drop, map}
use Rattle.text_tables.specs.Views.{sort_of_kind}
use Rattle.text_names.specs.UsedNames.{Holds}
use Rattle.text_names.specs.Views.{variable_in}
use Rattle.text_names.specs.Variables.{other_kind_names}
use Rattle.text_names.proofs.variables.names_but.Given as goal

abbrev pub invariant-loop-at : goal.invariant-loop-at
invariant-loop-at l = record {
  within : l.at ≤ length l.variables;
  held : Holds l.others (other_kind_names (sort_of_kind l.sort) (map variable_in (drop l.at l.variables)));
}

abbrev pub decreases-loop-at : goal.decreases-loop-at
decreases-loop-at l = l.at
