use Rattle.sessions.proofs.TextAnswers as Lemmas
use Rattle.sessions.proofs.laws.questions_are_answered_as_written.Goals as goal

pub returns : goal.returns
returns g c = Lemmas.texts-are-answered-as-written g.S.SolverSearch.handles
