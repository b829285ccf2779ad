-- The state that the fields of a context represent.
use Rattle.std.specs.Prelude.{map, vec_capacity}
use Rattle.goal_evaluator.specs.Context.{Context, nested_goal}
use Rattle.goal_evaluator.specs.declared.context.EvalCtxt.TheInside.{Inside}

abbrev pub context_of : Inside → Context
context_of a =
    record {
      mode = a.mode;
      table = a.table;
      variables = a.variables.items;
      values = a.values.items;
      nested = map nested_goal a.nested_goals.items;
      replies = a.replies.items;
      capacity = vec_capacity a.replies;
    }
