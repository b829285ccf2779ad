use Rattle.sessions.proofs.LeftSessions.{left-counted}
use Rattle.sessions.proofs.left_session.LeftSession.count.Goals as goal

pub returns : goal.returns
returns c = record { stays = λ d depth handles h. left-counted d depth handles c.args.self.now c.saturating_add-self.result h }
