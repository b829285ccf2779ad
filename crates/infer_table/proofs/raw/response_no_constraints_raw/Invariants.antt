use Rattle.std.proofs.Common.{◌≡◌, ◌++◌, drop}
use Rattle.type_terms.specs.Promised.Handles.{Keeps}
use Rattle.type_terms.specs.Promised.Handles.{ArgsHeld}
use Rattle.infer_table.specs.Values.{values_of}
use Rattle.infer_table.specs.Raw.{variables_from}
use Rattle.infer_table.proofs.raw.response_no_constraints_raw.Given as goal

abbrev pub invariant-loop-place : goal.invariant-loop-place
invariant-loop-place l = record {
  keeps : Keeps l.fn.cx.entries l.cx.entries;
  limit : l.cx.limit ≡ l.fn.cx.limit;
  held : ArgsHeld l.cx.entries l.var_values.items;
  values : values_of l.cx.entries l.var_values.items ++ variables_from l.place (drop l.place l.fn.variables.items) ≡ variables_from 0 l.fn.variables.items;
}
