use Rattle.sessions.specs.TypeTerms.Growth.{Grew}
use Rattle.sessions.specs.InferTable.Content.{Ready}
use Rattle.explain_sessions.proofs.free.table_of_new.Given as goal

abbrev pub invariant-numbers : goal.invariant-numbers
invariant-numbers l = record {
  ready : Ready l.cx.entries l.table;
  grew : Grew l.fn.cx l.cx;
}
