use Rattle.sessions.proofs.ReferenceGoals as Lemmas
use Rattle.sessions.proofs.laws.references_are_goals.Goals as goal

pub returns : goal.returns
returns c = Lemmas.references-are-goals
