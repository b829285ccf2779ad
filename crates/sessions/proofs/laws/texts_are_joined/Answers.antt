use Rattle.sessions.proofs.JoinedTexts.{texts-are-joined}
use Rattle.sessions.proofs.laws.texts_are_joined.Goals as goal

pub returns : goal.returns
returns c = texts-are-joined
