use Rattle.std.proofs.Common.{◌≡◌, true, drop}
use Rattle.infer_table.specs.Goals.{environment_trees}
use Rattle.infer_table.specs.Leaves.{is_closed_by}
use Rattle.infer_table.proofs.input.is_closed_goal.Given as goal

abbrev pub invariant-clauses : goal.invariant-clauses
invariant-clauses l = record {
  items : l.clause-items ≡ l.goal.param_env.items;
  closed : is_closed_by true (environment_trees l.cx.entries (drop l.clause-index l.clause-items)) ≡ is_closed_by true (environment_trees l.cx.entries l.clause-items);
}
