use Rattle.std.proofs.Common.{◌≡◌, ◌++◌, drop}
use Rattle.type_terms.specs.Promised.Handles.{Keeps}
use Rattle.type_terms.specs.Promised.Handles.{ArgsHeld}
use Rattle.infer_table.specs.Content.{Ready}
use Rattle.infer_table.specs.Unification.{table_trees}
use Rattle.infer_table.specs.Values.{values_of}
use Rattle.goal_evaluator.specs.Frames.{unknowns, with_unknowns}
use Rattle.goal_evaluator.proofs.trial.add_unknowns.Given as goal

abbrev pub invariant-loop-kind : goal.invariant-loop-kind
invariant-loop-kind l = record {
  keeps : Keeps l.fn.cx.entries l.cx.entries;
  limit : l.cx.limit ≡ l.fn.cx.limit;
  ready : Ready l.cx.entries l.table;
  held : ArgsHeld l.cx.entries l.values.items;
  left : values_of l.cx.entries l.values.items ++ unknowns (table_trees l.cx.entries l.table) (drop l.kind-index l.kinds)
      ≡ values_of l.fn.cx.entries l.fn.values.items ++ unknowns (table_trees l.fn.cx.entries l.fn.table) l.kinds;
  made : with_unknowns (table_trees l.cx.entries l.table) (drop l.kind-index l.kinds) ≡ with_unknowns (table_trees l.fn.cx.entries l.fn.table) l.kinds;
}
