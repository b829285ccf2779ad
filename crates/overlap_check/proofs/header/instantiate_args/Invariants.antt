use Rattle.std.proofs.Common.{◌≡◌, zero, length, None}
use Rattle.type_terms.specs.Promised.Trees.{◌+++◌, instantiate}
use Rattle.type_terms.specs.Promised.Handles.{ArgsHeld, trees_at}
use Rattle.type_terms.specs.Kinds.{args_trees}
use Rattle.type_terms.specs.Growth.{Grew}
use Rattle.term_folds.specs.Arguments.{first_misfit}
use Rattle.overlap_check.proofs.header.instantiate_args.Given as goal

abbrev pub invariant-each : goal.invariant-each
invariant-each l = record {
  grew : Grew l.fn.cx l.cx;
  left_held : ArgsHeld l.fn.cx.entries l.left;
  left_fit : first_misfit (trees_at l.fn.cx.entries l.fn.args.0) (args_trees l.fn.cx.entries l.left) ≡ None;
  found_held : ArgsHeld l.cx.entries l.found.items;
  are : args_trees l.cx.entries l.found.items +++ instantiate zero (trees_at l.fn.cx.entries l.fn.args.0) (args_trees l.fn.cx.entries l.left) ≡ instantiate zero (trees_at l.fn.cx.entries l.fn.args.0) (trees_at l.fn.cx.entries l.fn.written.0);
}

abbrev pub decreases-each : goal.decreases-each
decreases-each l = length l.left
