use Rattle.std.proofs.Common.{◌≡◌, take}
use Rattle.type_terms.specs.Promised.Handles.{Keeps}
use Rattle.infer_table.specs.Solutions.{resolved}
use Rattle.infer_table.specs.Content.{content, Ready, AllConstraintsHeld}
use Rattle.infer_table.specs.Constraints.{constraints_trees}
use Rattle.infer_table.proofs.constraints.resolve_constraints.Given as goal

abbrev pub invariant-loop-constraint : goal.invariant-loop-constraint
invariant-loop-constraint l = record {
  keeps : Keeps l.fn.cx.entries l.cx.entries;
  limit : l.cx.limit ≡ l.fn.cx.limit;
  ready : Ready l.cx.entries l.table;
  held : AllConstraintsHeld l.cx.entries l.resolved.items;
  resolved : constraints_trees l.cx.entries l.resolved.items ≡ resolved (content l.fn.cx.entries l.table.values) (constraints_trees l.fn.cx.entries (take l.constraint-index l.constraints));
}
