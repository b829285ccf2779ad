use Rattle.sessions.proofs.LeftSessions.{view-left-by}
use Rattle.sessions.proofs.left_session.LeftSession.into_view.Goals as goal

pub returns : goal.returns
returns c =
    let terms = c.replace-interner in
    let solver = c.replace-solver in
    record {
      view = λ d depth handles is. view-left-by d depth handles c.args.self is terms.result solver.result terms.ensures.value solver.ensures.value c.saturating_add.result;
    }
