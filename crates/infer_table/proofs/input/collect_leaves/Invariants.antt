use Rattle.std.proofs.Common.{◌≡◌, true, [], drop}
use Rattle.infer_table.specs.Canonical.{kind_in_clause, leaves}
use Rattle.infer_table.specs.Goals.{environment_trees}
use Rattle.infer_table.specs.Leaves.{AreLeaves, OpenAreLeaves, labels}
use Rattle.infer_table.proofs.input.collect_leaves.Given as goal

abbrev pub invariant-clauses : goal.invariant-clauses
invariant-clauses l = record {
  items : l.clause-items ≡ l.goal.param_env.items;
  in_clause : l.collector.in_clause ≡ true;
  listed : AreLeaves l.cx.entries l.collector.leaves.keys;
  leaves : leaves kind_in_clause (labels l.cx.entries l.collector.leaves.keys) (environment_trees l.cx.entries (drop l.clause-index l.clause-items)) ≡ leaves kind_in_clause [] (environment_trees l.cx.entries l.clause-items);
  only : OpenAreLeaves kind_in_clause (environment_trees l.cx.entries (drop l.clause-index l.clause-items)) → OpenAreLeaves kind_in_clause (environment_trees l.cx.entries l.clause-items);
}
