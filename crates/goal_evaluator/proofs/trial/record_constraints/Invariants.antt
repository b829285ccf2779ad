use Rattle.std.proofs.Common.{◌≡◌, drop}
use Rattle.type_terms.specs.Promised.Handles.{Keeps}
use Rattle.infer_table.specs.Constraints.{constraints_trees}
use Rattle.infer_table.specs.Content.{Ready}
use Rattle.infer_table.specs.Unification.{table_trees}
use Rattle.infer_table.specs.Values.{values_of, filled_values}
use Rattle.infer_table.specs.Applied.{with_constraints}
use Rattle.goal_evaluator.proofs.trial.record_constraints.Given as goal

abbrev pub invariant-loop-constraint : goal.invariant-loop-constraint
invariant-loop-constraint l = record {
  keeps : Keeps l.fn.cx.entries l.cx.entries;
  limit : l.cx.limit ≡ l.fn.cx.limit;
  ready : Ready l.cx.entries l.table;
  left : with_constraints (filled_values (values_of l.fn.cx.entries l.values) (constraints_trees l.fn.cx.entries (drop l.constraint-index l.constraints))) (table_trees l.cx.entries l.table)
      ≡ with_constraints (filled_values (values_of l.fn.cx.entries l.values) (constraints_trees l.fn.cx.entries l.constraints)) (table_trees l.fn.cx.entries l.fn.table);
}
