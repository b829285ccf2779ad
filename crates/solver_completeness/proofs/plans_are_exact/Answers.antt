use Rattle.solver_completeness.proofs.SolverPlans as Lemmas
use Rattle.solver_completeness.proofs.plans_are_exact.Goals as goal

pub returns : goal.returns
returns g applicable = Lemmas.plans-are-exact applicable
