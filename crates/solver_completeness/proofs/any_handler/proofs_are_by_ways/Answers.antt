use Rattle.solver_completeness.proofs.ModelWays.{proofs_are_by_ways}
use Rattle.solver_completeness.proofs.any_handler.proofs_are_by_ways.Goals as goal

pub returns : goal.returns
returns c = proofs_are_by_ways
