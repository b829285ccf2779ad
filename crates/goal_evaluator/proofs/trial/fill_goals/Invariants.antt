use Rattle.std.proofs.Common.{◌≡◌, ◌++◌, map, drop}
use Rattle.type_terms.specs.Promised.Handles.{Keeps}
use Rattle.infer_table.specs.Values.{values_of}
use Rattle.goal_evaluator.specs.Context.{NestedHeld, nested_goal}
use Rattle.goal_evaluator.specs.Frames.{nested_filled}
use Rattle.goal_evaluator.specs.Trial.{premises_trees}
use Rattle.goal_evaluator.proofs.trial.fill_goals.Given as goal

abbrev pub invariant-loop-premise : goal.invariant-loop-premise
invariant-loop-premise l = record {
  keeps : Keeps l.fn.cx.entries l.cx.entries;
  limit : l.cx.limit ≡ l.fn.cx.limit;
  held : NestedHeld l.cx.entries (map nested_goal l.filled.items);
  left : premises_trees l.cx.entries l.filled.items ++ map (nested_filled (values_of l.fn.cx.entries l.values)) (premises_trees l.fn.cx.entries (drop l.premise-index l.goals))
      ≡ map (nested_filled (values_of l.fn.cx.entries l.values)) (premises_trees l.fn.cx.entries l.goals);
}
