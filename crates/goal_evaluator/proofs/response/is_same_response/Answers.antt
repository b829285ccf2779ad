use Rattle.goal_evaluator.proofs.SameResponses.{response-eq}
use Rattle.goal_evaluator.proofs.response.is_same_response.Goals as goal

pub returns-clause-same : goal.returns-clause-same
returns-clause-same c = rw c.eq.ensures (response-eq c.args.left.now c.args.right.now)
