use Rattle.std.proofs.Common.{◌≡◌, arith, sym, subst}
use Rattle.sessions.specs.LeftSessions.{IsLeftSession}
use Rattle.sessions.specs.declared.left_session.LeftSession.{LeftSession}
use Rattle.coherence.proofs.kept_sessions.KeptSessions.keep_inference.Goals as goal

pub returns-clause-left : goal.returns-clause-left
returns-clause-left c =
    let n = c.args.left.limits in
    let m = c.args.self.now.limits in
    let depth : n.depth ≡ m.depth = omega (arith, c.if-left-self.false) in
    let handles : n.handles ≡ m.handles = omega (arith, c.if-left-self-2.false) in
    λ d all is.
    let left = subst (λ (s : LeftSession). IsLeftSession d n.depth n.handles s) (sym c.into_left_session-session.ensures) is.session in
    let counted = c.count.ensures.stays d n.depth n.handles left in
    c.put.ensures.left d all
    (subst (λ k. IsLeftSession d k m.handles c.count.new.self) depth (subst (λ k. IsLeftSession d n.depth k c.count.new.self) handles counted))
