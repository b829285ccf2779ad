use Rattle.sessions.specs.Declarations.Promised.Elaboration.{Each}
use Rattle.sessions.specs.Promised.Promises.{view_in}
use Rattle.sessions.specs.Promised.Subjects.{StaysOn}
use Rattle.explain_sessions.specs.Claims.{IsFreeAt}
use Rattle.explain_sessions.specs.Walked.{WalkHeld}
use Rattle.explain_sessions.proofs.free.free_goals.Given as goal

abbrev pub invariant-loop-place : goal.invariant-loop-place
invariant-loop-place l = record {
  stays : StaysOn l.fn.session l.session;
  held : WalkHeld l.session.terms l.walk;
  free : Each (IsFreeAt l.fn.session.terms (view_in l.fn.session.declarations l.fn.session.of_crate) l.walk.references.items) l.found.items;
}
