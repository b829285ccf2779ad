use Rattle.sessions.proofs.FormedViews as Lemmas
use Rattle.sessions.proofs.laws.texts_are_formed.Goals as goal

pub returns : goal.returns
returns c = Lemmas.texts-views-are-formed
