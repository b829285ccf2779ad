use Rattle.std.proofs.Common.{◌≡◌, false, [], drop}
use Rattle.type_terms.specs.Promised.Handles.{trees_at}
use Rattle.infer_table.specs.Canonical.{kind_of_leaf, leaves}
use Rattle.infer_table.specs.Constraints.{constraints_trees}
use Rattle.infer_table.specs.Leaves.{AreLeaves, labels}
use Rattle.infer_table.proofs.canonicalize.collect_leaves.Given as goal

abbrev pub invariant-loop-constraint : goal.invariant-loop-constraint
invariant-loop-constraint l = record {
  in_clause : l.collector.in_clause ≡ false;
  listed : AreLeaves l.cx.entries l.collector.leaves.keys;
  leaves : leaves kind_of_leaf (labels l.cx.entries l.collector.leaves.keys) (constraints_trees l.cx.entries (drop l.constraint-index l.constraints))
      ≡ leaves kind_of_leaf (leaves kind_of_leaf [] (trees_at l.cx.entries l.fn.values.0)) (constraints_trees l.cx.entries l.constraints);
}
