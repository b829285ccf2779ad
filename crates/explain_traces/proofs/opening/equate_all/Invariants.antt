use Rattle.type_terms.specs.Growth.{Grew}
use Rattle.infer_table.specs.Content.{Ready, Grows}
use Rattle.explain_traces.proofs.opening.equate_all.Given as goal

abbrev pub invariant-loop-equation : goal.invariant-loop-equation
invariant-loop-equation l = record {
  grew : Grew l.fn.cx l.cx;
  ready : Ready l.cx.entries l.table;
  grows : Grows l.fn.table l.table;
}
