use Rattle.std.proofs.Common.{◌≡◌, ◌+◌, ◌*◌, take, None}
use Rattle.type_terms.specs.Trees.{depth}
use Rattle.type_terms.specs.Promised.Handles.{Is, trees_at}
use Rattle.type_terms.specs.Terms.{args_lists}
use Rattle.type_terms.specs.Promised.Handles.{ArgsHeld, arg_trees}
use Rattle.type_terms.specs.Kinds.{args_trees}
use Rattle.orphan_check.specs.Decisive.{decisive_in}
use Rattle.orphan_check.proofs.open_walk.+written.Given as goal

abbrev pub decreases-decisive_in_ty : goal.decreases-decisive_in_ty
decreases-decisive_in_ty l = 3 * depth (trees_at l.cx.now.entries l.ty.0)

abbrev pub decreases-decisive_in_arg : goal.decreases-decisive_in_arg
decreases-decisive_in_arg l = 3 * depth (arg_trees l.cx.now.entries l.arg) + 1

abbrev pub decreases-decisive_in_args : goal.decreases-decisive_in_args
decreases-decisive_in_args l = 3 * depth (trees_at l.cx.now.entries l.args.0) + 2

abbrev pub invariant-decisive_in_args-loop-arg : goal.invariant-decisive_in_args-loop-arg
invariant-decisive_in_args-loop-arg l =
    (decisive_in l.cx.entries l.decls l.in_crate (args_trees l.cx.entries (take l.arg-index l.arg-items)) ≡ None)
    × ArgsHeld l.cx.entries l.arg-items
    × Is l.cx.entries args_lists l.fn.args.0 (args_trees l.cx.entries l.arg-items)
