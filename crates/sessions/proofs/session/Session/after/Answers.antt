use Rattle.sessions.proofs.LeftSessions.{left-handed}
use Rattle.sessions.proofs.session.Session.after.Goals as goal

pub behind-requires-clause-view : goal.behind-requires-clause-view
behind-requires-clause-view c =
    let is = rw c.in-Some.is at c.requires.left in
    left-handed c.args.workspace.now c.args.limits.depth c.args.limits.handles c.in-Some.left c.into_view-view.result is c.into_view-view.ensures.view
