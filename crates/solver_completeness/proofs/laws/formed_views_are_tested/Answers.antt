use Rattle.solver_completeness.proofs.FormedTests as Lemmas
use Rattle.solver_completeness.proofs.laws.formed_views_are_tested.Goals as goal

pub returns-clause-tell : goal.returns-clause-tell
returns-clause-tell c = Lemmas.formed-test-tells

pub returns-clause-core : goal.returns-clause-core
returns-clause-core c = Lemmas.core-is-formed
