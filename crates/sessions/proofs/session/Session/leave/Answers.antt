use Rattle.std.proofs.Common.{◌≡◌, ap, refl, subst}
use Rattle.sessions.specs.LeftSessions.{IsLeftSession, subject_after}
use Rattle.sessions.specs.Promised.Subjects.{Subject}
use Rattle.sessions.specs.declared.left_session.LeftSession.{LeftSession}
use Rattle.sessions.proofs.LeftSessions.{session-left}
use Rattle.sessions.proofs.session.Session.leave.Goals as goal

pub returns : goal.returns
returns c =
    let i = c.self.inside in
    let left : LeftSession = record { crate_id = i.crate_id; search = i.search; frames_before = i.frames_before } in
    record {
      left = subst (λ (x : Subject). IsLeftSession x.declarations x.depth x.handles left) c.self.view_is
          (session-left i.workspace.now i.limits.depth i.limits.handles left c.self.invariant);
      of_crate = ap (λ (x : Subject). x.of_crate) c.self.view_is;
      subject = subst (λ (x : Subject). subject_after x.declarations x.depth x.handles left ≡ x) c.self.view_is refl;
    }
