use Rattle.std.proofs.Common.{subst, sym}
use Rattle.sessions.specs.LeftSessions.{IsLeftSession}
use Rattle.coherence.specs.KeptSessions.{AreLeftSessions}
use Rattle.coherence.proofs.KeptSessions.{left-without}
use Rattle.coherence.proofs.kept_sessions.KeptSessions.take.Goals as goal

pub returns-clause-taken : goal.returns-clause-taken
returns-clause-taken c d h =
    let self = c.args.self.now in
    let place = c.in_ok-place.place in (
      subst (IsLeftSession d self.limits.depth self.limits.handles) (sym c.remove.ensures.value) (h place c.remove.result c.in_ok-place.ensures.there),
      subst (AreLeftSessions d self.limits) (sym c.remove.ensures.items) (left-without d self.limits self.left.items place h),
    )
