use Rattle.sessions.proofs.DecidedAnswers as Lemmas
use Rattle.sessions.proofs.laws.decided_are_answered.Goals as goal

pub returns-clause-references : goal.returns-clause-references
returns-clause-references c = Lemmas.decided-are-answered

pub returns-clause-questions : goal.returns-clause-questions
returns-clause-questions c = Lemmas.decided-questions-are-answered

pub returns-clause-short : goal.returns-clause-short
returns-clause-short c = Lemmas.short-are-answered
