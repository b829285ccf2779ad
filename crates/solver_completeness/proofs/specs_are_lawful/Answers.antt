use Rattle.solver_completeness.proofs.SolverSpecs.{specs-are-determined, specs-are-few, specs-are-sure}
use Rattle.solver_completeness.proofs.specs_are_lawful.Goals as goal

pub returns-clause-determined : goal.returns-clause-determined
returns-clause-determined g m = specs-are-determined m

pub returns-clause-few : goal.returns-clause-few
returns-clause-few g m = specs-are-few m

pub returns-clause-sure : goal.returns-clause-sure
returns-clause-sure g m = specs-are-sure m
