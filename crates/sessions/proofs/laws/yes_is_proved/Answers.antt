use Rattle.sessions.proofs.CoveringAnswers as Lemmas
use Rattle.sessions.proofs.laws.yes_is_proved.Goals as goal

pub returns : goal.returns
returns c = Lemmas.yes-is-right
