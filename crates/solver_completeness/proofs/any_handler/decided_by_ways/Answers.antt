use Rattle.solver_completeness.proofs.ModelWays.{single_way_is_decided}
use Rattle.solver_completeness.proofs.any_handler.decided_by_ways.Goals as goal

pub returns : goal.returns
returns c = single_way_is_decided
