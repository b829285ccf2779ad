use Rattle.std.proofs.Common.{take}
use Rattle.type_terms.specs.declared.ImplId.{ImplId}
use Rattle.declarations.specs.Promised.Elaboration.{Each}
use Rattle.sessions.specs.FixedGoals.{AreRefutedInSession}
use Rattle.sessions.specs.Promised.Subjects.{StaysOn}
use Rattle.sessions.proofs.CheckedSubjects.{Passed}
use Rattle.sessions.proofs.session.Session.first_partner.Given as goal

abbrev pub invariant-loop-earlier : goal.invariant-loop-earlier
invariant-loop-earlier l = record {
  stays : StaysOn l.fn.self l.self;
  noted : AreRefutedInSession l.self l.answers;
  passed : Each (λ (i : ImplId). Passed l.fn.self l.later.index i.index) (take l.earlier-index l.earlier-items);
}
