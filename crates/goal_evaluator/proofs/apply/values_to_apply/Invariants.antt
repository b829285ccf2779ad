use Rattle.std.proofs.Common.{◌≡◌, ◌++◌, drop}
use Rattle.type_terms.specs.Promised.Handles.{Keeps}
use Rattle.type_terms.specs.Promised.Handles.{ArgsHeld}
use Rattle.infer_table.specs.Content.{Ready, Grows}
use Rattle.infer_table.specs.Values.{values_of}
use Rattle.infer_table.specs.Unification.{table_trees}
use Rattle.infer_table.specs.Responses.{answer_trees}
use Rattle.infer_table.specs.Applying.{known_value, values_for, table_for}
use Rattle.goal_evaluator.proofs.apply.values_to_apply.Given as goal

abbrev pub invariant-loop-number : goal.invariant-loop-number
invariant-loop-number l = record {
  keeps : Keeps l.fn.cx.entries l.cx.entries;
  limit : l.cx.limit ≡ l.fn.cx.limit;
  ready : Ready l.cx.entries l.table;
  bindings : l.table.values ≡ l.fn.table.values;
  constraints : l.table.constraints ≡ l.fn.table.constraints;
  grows : Grows l.fn.table l.table;
  made : table_for (known_value (answer_trees l.fn.cx.entries l.response) (values_of l.fn.cx.entries l.original_values)) (table_trees l.fn.cx.entries l.table) l.number (drop l.number l.response.variables.items) ≡ table_for (known_value (answer_trees l.fn.cx.entries l.response) (values_of l.fn.cx.entries l.original_values)) (table_trees l.fn.cx.entries l.fn.table) 0 l.response.variables.items;
  held : ArgsHeld l.cx.entries l.values.items;
  values : values_of l.cx.entries l.values.items ++ values_for (known_value (answer_trees l.fn.cx.entries l.response) (values_of l.fn.cx.entries l.original_values)) (table_trees l.fn.cx.entries l.table) l.number (drop l.number l.response.variables.items)
      ≡ values_for (known_value (answer_trees l.fn.cx.entries l.response) (values_of l.fn.cx.entries l.original_values)) (table_trees l.fn.cx.entries l.fn.table) 0 l.response.variables.items;
}
