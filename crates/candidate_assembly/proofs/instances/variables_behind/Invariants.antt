use Rattle.std.proofs.Common.{◌≡◌, ◌+◌, ◌++◌, drop}
use Rattle.type_terms.specs.Promised.Handles.{ArgsHeld}
use Rattle.type_terms.specs.Growth.{Grew}
use Rattle.infer_table.specs.Values.{values_of}
use Rattle.infer_table.specs.Raw.{variables_from}
use Rattle.candidate_assembly.proofs.instances.variables_behind.Given as goal

abbrev pub invariant-loop-place : goal.invariant-loop-place
invariant-loop-place l = record {
  grew : Grew l.fn.cx l.cx;
  held : ArgsHeld l.cx.entries l.values.items;
  values : values_of l.cx.entries l.values.items ++ variables_from (l.fn.others + l.place) (drop l.place l.fn.kinds) ≡ variables_from l.fn.others l.fn.kinds;
}
