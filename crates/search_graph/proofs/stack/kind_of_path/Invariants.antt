use Rattle.std.proofs.Common.{◌≡◌, ◌≤◌, ◌<◌, length, drop}
use Rattle.search_graph.specs.Stack.{kind_after}
use Rattle.search_graph.proofs.stack.kind_of_path.Given as goal

abbrev pub invariant-loop-above : goal.invariant-loop-above
invariant-loop-above g l = record {
  within : l.above ≤ length l.stack;
  below : l.index < l.above;
  kind : l.path_kind ≡ kind_after (drop l.above l.stack) l.fn.step_kind;
}

abbrev pub decreases-loop-above : goal.decreases-loop-above
decreases-loop-above g l = l.above
