use Rattle.declarations.specs.Items.{declared}
use Rattle.type_terms.specs.Growth.{Grew}
use Rattle.overlap_check.proofs.Judged.{KeptBelow}
use Rattle.overlap_check.proofs.orphans.first_orphan.Given as goal

abbrev pub invariant-loop-index : goal.invariant-loop-index
invariant-loop-index l = record {
  grew : Grew l.fn.cx l.cx;
  kept : KeptBelow (declared l.fn.cx.entries l.fn.declarations) l.fn.declarations.local l.index;
}
