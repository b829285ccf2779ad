use Rattle.std.proofs.Common.{subst, sym, Vec, Global}
use Rattle.sessions.specs.declared.left_session.LeftSession.{LeftSession}
use Rattle.coherence.specs.KeptSessions.{AreLeftSessions}
use Rattle.coherence.proofs.kept_sessions.KeptSessions.resume.Goals as goal

pub returns-clause-left : goal.returns-clause-left
returns-clause-left c =
    subst (λ (v : Vec LeftSession Global). AreLeftSessions c.args.workspace.now c.args.self.now.limits v.items) (sym c.note.ensures.left) (c.take-left.ensures.taken c.args.workspace.now c.requires.left).1

pub returns-in_err-session-clause-left : goal.returns-in_err-session-clause-left
returns-in_err-session-clause-left c =
    subst (λ (v : Vec LeftSession Global). AreLeftSessions c.args.workspace.now c.args.self.now.limits v.items) (sym c.note.ensures.left) (c.take-left.ensures.taken c.args.workspace.now c.requires.left).1
