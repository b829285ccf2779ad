use Rattle.std.proofs.Common.{◌≡◌, zero, length}
use Rattle.type_terms.specs.Promised.Trees.{◌+++◌, instantiate}
use Rattle.type_terms.specs.Promised.Handles.{ArgsHeld, trees_at}
use Rattle.type_terms.specs.Kinds.{args_trees}
use Rattle.overlap_check.proofs.header.plain_instances.Given as goal

abbrev pub invariant-each : goal.invariant-each
invariant-each l = record {
  left_held : ArgsHeld l.cx.entries l.left;
  found_held : ArgsHeld l.cx.entries l.found.items;
  are : args_trees l.cx.entries l.found.items +++ instantiate zero (trees_at l.cx.entries l.args.0) (args_trees l.cx.entries l.left)
      ≡ instantiate zero (trees_at l.cx.entries l.args.0) (trees_at l.cx.entries l.fn.written.0);
}

abbrev pub decreases-each : goal.decreases-each
decreases-each l = length l.left
