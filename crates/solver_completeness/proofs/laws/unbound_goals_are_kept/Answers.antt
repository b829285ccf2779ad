use Rattle.solver_completeness.proofs.UnboundGoals as Lemmas
use Rattle.solver_completeness.proofs.laws.unbound_goals_are_kept.Goals as goal

pub returns-clause-kept : goal.returns-clause-kept
returns-clause-kept c = Lemmas.unbound-are-kept

pub returns-clause-admitted : goal.returns-clause-admitted
returns-clause-admitted c = Lemmas.unbound-are-admitted
