use Rattle.sessions.proofs.TextQuestions as Lemmas
use Rattle.sessions.proofs.laws.questions_are_formed.Goals as goal

pub returns : goal.returns
returns c = Lemmas.texts-questions-are-formed
