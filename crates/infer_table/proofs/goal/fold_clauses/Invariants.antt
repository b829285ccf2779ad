use Rattle.std.proofs.Common.{◌≡◌, take}
use Rattle.type_terms.specs.Promised.Handles.{Keeps}
use Rattle.infer_table.specs.Goals.{ClausesHeld, ClausesFold}
use Rattle.infer_table.proofs.goal.fold_clauses.Given as goal

abbrev pub invariant-loop-clause : goal.invariant-loop-clause
invariant-loop-clause g l = record {
  keeps : Keeps l.fn.cx.entries l.cx.entries;
  limit : l.cx.limit ≡ l.fn.cx.limit;
  ready : g.F.TypeFolder.ready l.folder l.cx.entries;
  held : ClausesHeld l.cx.entries l.folded.items;
  folded : ClausesFold (g.F.TypeFolder.action l.folder l.fn.cx.entries) l.fn.cx.entries (take l.clause-index l.clauses) l.cx.entries l.folded.items;
}
