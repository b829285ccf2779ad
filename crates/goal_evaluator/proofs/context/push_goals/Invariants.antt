use Rattle.std.proofs.Common.{◌≡◌, ◌++◌, map, take, length}
use Rattle.std.specs.Vec.Iter.{into_iter_items}
use Rattle.goal_evaluator.specs.Context.{nested_goal}
use Rattle.goal_evaluator.proofs.context.push_goals.Given as goal

abbrev pub invariant-loop-goal : goal.invariant-loop-goal
invariant-loop-goal l = record {
  can : (goal.iterator-loop-goal).can_next l.goal-iterator;
  finite : (goal.iterator-loop-goal).is_finite l.goal-iterator;
  pushed : map nested_goal l.nested_goals.items ≡ map nested_goal l.fn.nested_goals.items ++ map (λ g. nested_goal (l.source, g)) l.yielded;
  kept : take (length l.fn.nested_goals.items) l.nested_goals.items ≡ l.fn.nested_goals.items;
  left : l.yielded ++ into_iter_items l.goal-iterator ≡ l.fn.goals.items;
}
