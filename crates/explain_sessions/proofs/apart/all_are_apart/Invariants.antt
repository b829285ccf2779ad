use Rattle.std.proofs.Common.{◌≡◌}
use Rattle.sessions.specs.TypeTerms.Growth.{Grew}
use Rattle.sessions.specs.Declarations.Items.{declared}
use Rattle.sessions.specs.InferTable.Content.{Ready}
use Rattle.sessions.specs.ProofChecker.Steps.{term_of}
use Rattle.explain_sessions.proofs.PassedImpls.{HaveNone, numbers_left}
use Rattle.explain_sessions.proofs.apart.all_are_apart.Given as goal

abbrev pub invariant-impls : goal.invariant-impls
invariant-impls l = record {
  grew : Grew l.fn.cx l.cx;
  ready : Ready l.cx.entries l.table;
  table : l.table ≡ l.fn.table;
  none : HaveNone (declared l.fn.cx.entries l.fn.declarations) (term_of l.fn.cx.entries l.fn.reference) l.last;
}

abbrev pub decreases-impls : goal.decreases-impls
decreases-impls l = numbers_left l.last
