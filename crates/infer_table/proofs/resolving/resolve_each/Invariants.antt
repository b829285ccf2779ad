use Rattle.std.proofs.Common.{◌≡◌, length}
use Rattle.type_terms.specs.Promised.Trees.{◌+++◌}
use Rattle.type_terms.specs.Promised.Handles.{ArgsHeld, trees_at}
use Rattle.type_terms.specs.Kinds.{args_trees}
use Rattle.type_terms.specs.Growth.{Grew}
use Rattle.infer_table.specs.Content.{content, Ready}
use Rattle.infer_table.specs.Solutions.{resolved}
use Rattle.infer_table.proofs.resolving.resolve_each.Given as goal

abbrev pub invariant-each : goal.invariant-each
invariant-each l = record {
  grew : Grew l.fn.cx l.cx;
  ready : Ready l.cx.entries l.table;
  left_held : ArgsHeld l.fn.cx.entries l.left;
  found_held : ArgsHeld l.cx.entries l.found.items;
  are : args_trees l.cx.entries l.found.items +++ resolved (content l.fn.cx.entries l.table.values) (args_trees l.fn.cx.entries l.left)
      ≡ resolved (content l.fn.cx.entries l.table.values) (trees_at l.fn.cx.entries l.fn.args.0);
}

abbrev pub decreases-each : goal.decreases-each
decreases-each l = length l.left
