use Rattle.std.proofs.Common.{◌≡◌, ◌++◌, map, drop}
use Rattle.type_terms.specs.Promised.Handles.{Keeps}
use Rattle.infer_table.specs.Values.{values_of}
use Rattle.goal_evaluator.specs.Context.{IsReadyContext}
use Rattle.goal_evaluator.specs.Evaluating.{goals_trees}
use Rattle.goal_evaluator.specs.Frames.{nested_filled}
use Rattle.goal_evaluator.specs.Trial.{premises_trees}
use Rattle.goal_evaluator.proofs.trial.add_goals.Given as goal

abbrev pub invariant-loop-nested : goal.invariant-loop-nested
invariant-loop-nested l = record {
  keeps : Keeps l.fn.cx.entries l.cx.entries;
  limit : l.cx.limit ≡ l.fn.cx.limit;
  ready : IsReadyContext l.cx.entries l.context;
  rest : l.context ≡ record l.fn.context { nested = l.context.nested };
  left : goals_trees l.cx.entries l.context.nested ++ map (nested_filled (values_of l.fn.cx.entries l.values)) (premises_trees l.fn.cx.entries (drop l.nested-index l.goals))
      ≡ goals_trees l.fn.cx.entries l.fn.context.nested ++ map (nested_filled (values_of l.fn.cx.entries l.values)) (premises_trees l.fn.cx.entries l.goals);
}
