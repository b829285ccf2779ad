use Rattle.std.proofs.Common.{◌+◌, ◌*◌, length}
use Rattle.type_terms.specs.Promised.Trees.{Trees}
use Rattle.type_terms.specs.Promised.Handles.{ArgsHeld}
use Rattle.type_terms.specs.Kinds.{args_trees}
use Rattle.overlap_check.specs.FixedClauses.{IsFixedBy}
use Rattle.overlap_check.proofs.fixed.+fixing.Given as goal

abbrev pub decreases-fixed_in_args : goal.decreases-fixed_in_args
decreases-fixed_in_args l = 2 * l.levels_below + 1

abbrev pub decreases-fixed_in_arg : goal.decreases-fixed_in_arg
decreases-fixed_in_arg l = 2 * l.levels_below

abbrev pub invariant-fixed_in_args-pairs : goal.invariant-fixed_in_args-pairs
invariant-fixed_in_args-pairs l = record {
  left_held : ArgsHeld l.cx.entries l.left_rest;
  right_held : ArgsHeld l.cx.entries l.right_rest;
  rest : (t : Trees) → IsFixedBy l.index (args_trees l.cx.entries l.left_rest) (args_trees l.cx.entries l.right_rest) t
      → IsFixedBy l.index (args_trees l.cx.entries l.left) (args_trees l.cx.entries l.right) t;
}

abbrev pub decreases-fixed_in_args-pairs : goal.decreases-fixed_in_args-pairs
decreases-fixed_in_args-pairs l = length l.left_rest
