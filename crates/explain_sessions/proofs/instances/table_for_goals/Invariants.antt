use Rattle.std.proofs.Common.{◌≡◌, []}
use Rattle.sessions.specs.TypeTerms.Growth.{Grew}
use Rattle.sessions.specs.InferTable.Content.{Ready}
use Rattle.explain_sessions.proofs.instances.table_for_goals.Given as goal

abbrev pub invariant-taken : goal.invariant-taken
invariant-taken l = record {
  ready : Ready l.cx.entries l.table;
  no_values : l.table.values ≡ [];
  grew : Grew l.fn.cx l.cx;
}
