use Rattle.solver_completeness.proofs.ModelWays.{possible_is_by_ways}
use Rattle.solver_completeness.proofs.any_handler.possible_by_ways.Goals as goal

pub returns : goal.returns
returns c = possible_is_by_ways
