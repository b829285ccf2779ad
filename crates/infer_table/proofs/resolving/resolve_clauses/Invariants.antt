use Rattle.std.proofs.Common.{◌≡◌, take}
use Rattle.type_terms.specs.Promised.Handles.{Keeps}
use Rattle.infer_table.specs.Solutions.{resolved}
use Rattle.infer_table.specs.Content.{content, Ready}
use Rattle.infer_table.specs.Goals.{ClausesHeld, environment_trees}
use Rattle.infer_table.proofs.resolving.resolve_clauses.Given as goal

abbrev pub invariant-loop-clause : goal.invariant-loop-clause
invariant-loop-clause l = record {
  keeps : Keeps l.fn.cx.entries l.cx.entries;
  limit : l.cx.limit ≡ l.fn.cx.limit;
  ready : Ready l.cx.entries l.table;
  held : ClausesHeld l.cx.entries l.resolved.items;
  resolved : environment_trees l.cx.entries l.resolved.items ≡ resolved (content l.fn.cx.entries l.table.values) (environment_trees l.fn.cx.entries (take l.clause-index l.clauses));
}
