use Rattle.std.proofs.Common.{length}
use Rattle.sessions.specs.InferTable.Content.{Ready}
use Rattle.sessions.specs.Declarations.Applied.{TraitRefsHeld}
use Rattle.explain_traces.specs.Walking.{ReferencesHeld}
use Rattle.explain_sessions.specs.Walked.{RestsAfter}
use Rattle.explain_sessions.proofs.pairs.walk_clauses.Given as goal

abbrev pub invariant-clauses : goal.invariant-clauses
invariant-clauses l = record {
  rests : RestsAfter l.fn.search.graph.root_depth l.fn.search.cx l.search.cx l.search.graph l.search.cache;
  table : Ready l.search.cx.interner.entries l.table;
  walked : ReferencesHeld l.search.cx.interner.entries l.walk.references.items;
  left : TraitRefsHeld l.fn.search.cx.interner.entries l.left;
}

abbrev pub decreases-clauses : goal.decreases-clauses
decreases-clauses l = length l.left
