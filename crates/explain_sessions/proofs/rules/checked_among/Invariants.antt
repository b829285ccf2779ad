use Rattle.sessions.specs.Declarations.Items.{declared}
use Rattle.sessions.specs.Declarations.Promised.Elaboration.{Each}
use Rattle.sessions.specs.InferTable.Content.{Ready}
use Rattle.sessions.specs.TypeTerms.Growth.{Grew}
use Rattle.explain_sessions.specs.Rules.{IsRuleAt, MayApplyAt}
use Rattle.explain_sessions.proofs.rules.checked_among.Given as goal

abbrev pub invariant-loop-at : goal.invariant-loop-at
invariant-loop-at l = record {
  grew : Grew l.fn.cx l.cx;
  table : Ready l.cx.entries l.table;
  rules : Each (IsRuleAt l.fn.cx.entries (declared l.fn.cx.entries l.fn.declarations) l.walk) l.rules.items;
  chances : Each (MayApplyAt l.fn.cx.entries (declared l.fn.cx.entries l.fn.declarations) l.walk) l.chances.items;
}
