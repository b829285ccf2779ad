use Rattle.type_terms.specs.Growth.{Grew}
use Rattle.declarations.proofs.Elaborating.{Elaborates, to_come}
use Rattle.declarations.proofs.declarations.Declarations.elaborate.Given as goal

abbrev pub invariant-stack : goal.invariant-stack
invariant-stack l = record {
  grew : Grew l.fn.cx l.cx;
  elaborates : Elaborates l.fn.cx.entries l.fn.self l.fn.references l.cx.entries l.elaborator l.found.items;
}

abbrev pub decreases-stack : goal.decreases-stack
decreases-stack l = to_come l.fn.cx.entries l.fn.self l.fn.references l.cx.entries l.elaborator
