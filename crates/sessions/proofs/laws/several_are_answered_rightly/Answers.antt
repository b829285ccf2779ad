use Rattle.sessions.proofs.ProvedTogether.{several-are-answered-rightly}
use Rattle.sessions.proofs.laws.several_are_answered_rightly.Goals as goal

pub returns : goal.returns
returns c = several-are-answered-rightly
