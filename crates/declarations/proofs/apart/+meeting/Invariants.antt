use Rattle.std.proofs.Common.{◌≡◌, ◌+◌, ◌*◌, suc, length}
use Rattle.type_terms.specs.Promised.Handles.{ArgsHeld}
use Rattle.type_terms.specs.Kinds.{TysHeld, args_trees, tys_trees}
use Rattle.declarations.specs.Apart.{may_meet}
use Rattle.declarations.proofs.apart.+meeting.Given as goal

abbrev pub decreases-types_may_meet : goal.decreases-types_may_meet
decreases-types_may_meet l = 5 * l.levels_below + 1

abbrev pub decreases-tops_may_meet : goal.decreases-tops_may_meet
decreases-tops_may_meet l = 5 * l.levels_below

abbrev pub decreases-arg_may_meet : goal.decreases-arg_may_meet
decreases-arg_may_meet l = 5 * l.levels_below + 2

abbrev pub decreases-args_may_meet : goal.decreases-args_may_meet
decreases-args_may_meet l = 5 * l.levels_below + 3

abbrev pub decreases-tys_may_meet : goal.decreases-tys_may_meet
decreases-tys_may_meet l = 5 * l.levels_below + 3

abbrev pub decreases-parts_may_meet : goal.decreases-parts_may_meet
decreases-parts_may_meet l = 5 * l.levels_below + 4

abbrev pub invariant-args_may_meet-pairs : goal.invariant-args_may_meet-pairs
invariant-args_may_meet-pairs l = record {
  left_held : ArgsHeld l.cx.entries l.left_rest;
  right_held : ArgsHeld l.cx.entries l.right_rest;
  rest : may_meet (suc l.levels_below) (args_trees l.cx.entries l.left) (args_trees l.cx.entries l.right) ≡ may_meet (suc l.levels_below) (args_trees l.cx.entries l.left_rest) (args_trees l.cx.entries l.right_rest);
}

abbrev pub decreases-args_may_meet-pairs : goal.decreases-args_may_meet-pairs
decreases-args_may_meet-pairs l = length l.left_rest

abbrev pub invariant-tys_may_meet-items : goal.invariant-tys_may_meet-items
invariant-tys_may_meet-items l = record {
  left_held : TysHeld l.cx.entries l.left_items;
  right_held : TysHeld l.cx.entries l.right_items;
  rest : may_meet (suc l.levels_below) (tys_trees l.cx.entries l.left) (tys_trees l.cx.entries l.right) ≡ may_meet (suc l.levels_below) (tys_trees l.cx.entries l.left_items) (tys_trees l.cx.entries l.right_items);
}

abbrev pub decreases-tys_may_meet-items : goal.decreases-tys_may_meet-items
decreases-tys_may_meet-items l = length l.left_items
