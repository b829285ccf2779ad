use Rattle.std.proofs.Common.{◌≡◌, sym, subst}
use Rattle.sessions.specs.LeftSessions.{IsLeftSession, subject_after}
use Rattle.sessions.specs.Promised.Subjects.{Subject}
use Rattle.session_inference.specs.Inferences.{Inference, IsInferring}
use Rattle.session_inference.proofs.inferring.InferenceSession.leave.Goals as goal

pub returns-clause-left : goal.returns-clause-left
returns-clause-left c =
    let i = c.self.inside in
    let s = i.session in
    let n = c.session.inside.limits in
    let r = c.leave.result in
    let same : subject_after s.declarations n.depth n.handles r ≡ s = subst (λ (x : Subject). subject_after s.declarations x.depth x.handles r ≡ s) (sym c.session.view_is) c.leave.ensures.subject in
    record {
      session = subst (λ (v : Inference). IsLeftSession v.subject.declarations n.depth n.handles r) c.self.view_is (subst (λ (x : Subject). IsLeftSession s.declarations x.depth x.handles r) (sym c.session.view_is) c.leave.ensures.left);
      inferring = subst (λ (v : Inference). IsInferring (subject_after v.subject.declarations n.depth n.handles r) i.infer i.terms.items i.snapshots.items) c.self.view_is
          (subst (λ (x : Subject). IsInferring x i.infer i.terms.items i.snapshots.items) (sym same) c.self.invariant);
    }
