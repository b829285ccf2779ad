use Rattle.sessions.proofs.TextAnswers as Lemmas
use Rattle.sessions.proofs.laws.questions_are_answered_exactly.Goals as goal

pub returns-clause-right : goal.returns-clause-right
returns-clause-right g c = Lemmas.texts-are-answered g.S.SolverSearch.handles

pub returns-clause-possible : goal.returns-clause-possible
returns-clause-possible g c = Lemmas.texts-tell-possible g.S.SolverSearch.handles
