use Rattle.sessions.specs.TypeTerms.Growth.{Grew}
use Rattle.explain_sessions.proofs.steps.supertrait_place.Given as goal

abbrev pub invariant-loop-place : goal.invariant-loop-place
invariant-loop-place l = record {
  grew : Grew l.fn.cx l.cx;
}
