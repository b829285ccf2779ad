use Rattle.solver_completeness.proofs.FormedWays as Lemmas
use Rattle.solver_completeness.proofs.laws.formed_facts_are_kept.Goals as goal

pub returns : goal.returns
returns c = Lemmas.formed-are-kept
