use Rattle.std.proofs.Common.{◌≡◌, take}
use Rattle.type_terms.specs.Promised.Handles.{Keeps}
use Rattle.infer_table.specs.Content.{Ready, Grows}
use Rattle.infer_table.specs.Leaves.{AreLeaves, labels}
use Rattle.infer_table.specs.Unknowns.{next_labels, with_each}
use Rattle.infer_table.proofs.unknowns.next_values.Given as goal

abbrev pub invariant-variables : goal.invariant-variables
invariant-variables l = record {
  keeps : Keeps l.fn.cx.entries l.cx.entries;
  limit : l.cx.limit ≡ l.fn.cx.limit;
  ready : Ready l.cx.entries l.table;
  held : AreLeaves l.cx.entries l.values.items;
  unknowns : labels l.cx.entries l.values.items ≡ next_labels l.fn.table 0 (take l.place l.variables);
  made : l.table ≡ with_each l.fn.table (take l.place l.variables);
  grows : Grows l.fn.table l.table;
}
