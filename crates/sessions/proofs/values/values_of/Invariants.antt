use Rattle.std.proofs.Common.{◌≡◌, map, take}
use Rattle.type_terms.specs.Promised.Handles.{Keeps}
use Rattle.type_terms.specs.Promised.Handles.{ArgsHeld, arg_trees}
use Rattle.infer_table.specs.Content.{Ready, content}
use Rattle.infer_table.specs.Solutions.{resolved}
use Rattle.sessions.proofs.values.values_of.Given as goal

abbrev pub invariant-loop-unknown : goal.invariant-loop-unknown
invariant-loop-unknown l = record {
  keeps : Keeps l.fn.cx.entries l.cx.entries;
  limit : l.cx.limit ≡ l.fn.cx.limit;
  ready : Ready l.cx.entries l.table;
  held : ArgsHeld l.cx.entries l.values.items;
  are : map (arg_trees l.cx.entries) l.values.items ≡ map (λ u. resolved (content l.fn.cx.entries l.table.values) (arg_trees l.fn.cx.entries u)) (take l.unknown-index l.unknowns);
}
