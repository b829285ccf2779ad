use Rattle.std.proofs.Common.{take}
use Rattle.sessions.specs.Declarations.Promised.Elaboration.{Each}
use Rattle.sessions.specs.InferTable.Content.{Ready}
use Rattle.sessions.specs.ProofChecker.Steps.{StepHeld}
use Rattle.sessions.specs.TypeTerms.Growth.{Grew}
use Rattle.explain_sessions.specs.Shown.{StepsAreShown}
use Rattle.explain_sessions.proofs.steps.steps_of.Given as goal

abbrev pub invariant-loop-next : goal.invariant-loop-next
invariant-loop-next l = record {
  grew : Grew l.fn.cx l.cx;
  table : Ready l.cx.entries l.table;
  held : Each (StepHeld l.cx.entries) l.steps.items;
  shown : StepsAreShown l.walk.references.items l.steps.items (take l.next-index l.shown);
}
