use Rattle.std.proofs.Common.{◌≡◌, length}
use Rattle.sessions.specs.TextLanguage.Promised.Declarations.{Declarations}
use Rattle.sessions.specs.LeftSessions.{IsLeftSession}
use Rattle.coherence.specs.KeptSessions.{AreLeftSessions}
use Rattle.coherence.proofs.kept_sessions.KeptSessions.put.Given as goal

abbrev pub invariant-oldest : goal.invariant-oldest
invariant-oldest l = record {
  limits : l.self.limits ≡ l.fn.self.limits;
  left : (d : Declarations) → AreLeftSessions d l.fn.self.limits l.fn.self.left.items → IsLeftSession d l.fn.self.limits.depth l.fn.self.limits.handles l.fn.left → AreLeftSessions d l.fn.self.limits l.self.left.items;
}

abbrev pub decreases-oldest : goal.decreases-oldest
decreases-oldest l = length l.self.left.items
