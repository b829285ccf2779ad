use Rattle.candidate_model.proofs.SolverLaw.{solver-is-lawful-and-covers, well-declared-is-lawful}
use Rattle.candidate_model.proofs.solver_is_lawful.Goals as goal

pub returns-clause-handler : goal.returns-clause-handler
returns-clause-handler g applicable = solver-is-lawful-and-covers applicable

pub returns-clause-candidates : goal.returns-clause-candidates
returns-clause-candidates g m = well-declared-is-lawful m
