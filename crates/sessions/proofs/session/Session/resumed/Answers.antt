use Rattle.sessions.proofs.LeftSessions.{session-after}
use Rattle.sessions.proofs.session.Session.resumed.Goals as goal

pub invariant_of-result : goal.invariant_of-result
invariant_of-result c = rw c.into_parts-search.ensures (session-after c.args.workspace.now c.args.limits.depth c.args.limits.handles c.args.left c.requires.parsed c.requires.left)
