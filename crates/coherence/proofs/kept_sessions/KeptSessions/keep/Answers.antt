use Rattle.std.proofs.Common.{subst}
use Rattle.sessions.specs.LeftSessions.{IsLeftSession}
use Rattle.coherence.proofs.kept_sessions.KeptSessions.keep.Goals as goal

pub returns-clause-left : goal.returns-clause-left
returns-clause-left g c =
    let s = c.args.session in
    let limits = c.args.self.now.limits in
    let is = c.count.ensures.stays s.declarations s.depth s.handles c.leave-left.ensures.left in
    c.put.ensures.left s.declarations c.requires.left
    (subst (λ n. IsLeftSession s.declarations n limits.handles c.count.new.self) c.requires.depth (subst (λ n. IsLeftSession s.declarations s.depth n c.count.new.self) c.requires.handles is))
