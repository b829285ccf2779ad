use Rattle.sessions.proofs.AskedGoals as Lemmas
use Rattle.sessions.proofs.laws.formed_questions_are_goals.Goals as goal

pub returns : goal.returns
returns c = Lemmas.formed-questions-are-goals
