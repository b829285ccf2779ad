use Rattle.solver_completeness.proofs.ModelWays.{short_is_by_ways}
use Rattle.solver_completeness.proofs.any_handler.bounded_by_ways.Goals as goal

pub returns : goal.returns
returns c = short_is_by_ways
