use Rattle.std.proofs.Common.{◌≡◌, map, drop}
use Rattle.type_terms.specs.Promised.Handles.{Keeps}
use Rattle.infer_table.specs.Content.{Ready}
use Rattle.infer_table.specs.Unification.{table_trees}
use Rattle.infer_table.specs.Values.{values_of}
use Rattle.goal_evaluator.specs.Frames.{pair_filled, solved}
use Rattle.goal_evaluator.specs.Trial.{equations_trees}
use Rattle.goal_evaluator.proofs.trial.equate_all.Given as goal

abbrev pub invariant-loop-equation : goal.invariant-loop-equation
invariant-loop-equation l = record {
  keeps : Keeps l.fn.cx.entries l.cx.entries;
  limit : l.cx.limit ≡ l.fn.cx.limit;
  ready : Ready l.cx.entries l.table;
  left : solved (table_trees l.cx.entries l.table) (map (pair_filled (values_of l.fn.cx.entries l.values)) (equations_trees l.fn.cx.entries (drop l.equation-index l.equations)))
      ≡ solved (table_trees l.fn.cx.entries l.fn.table) (map (pair_filled (values_of l.fn.cx.entries l.values)) (equations_trees l.fn.cx.entries l.equations));
}
