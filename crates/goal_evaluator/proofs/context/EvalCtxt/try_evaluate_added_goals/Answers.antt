use Rattle.std.proofs.Common.{subst, map}
use Rattle.goal_evaluator.specs.Context.{nested_goal}
use Rattle.goal_evaluator.specs.Steps.{RoundsHeld}
use Rattle.goal_evaluator.proofs.CallEnds.{ready-settled}
use Rattle.goal_evaluator.proofs.context.EvalCtxt.try_evaluate_added_goals.Goals as goal

pub returns-in-Ended-clause-ready : goal.returns-in-Ended-clause-ready
returns-in-Ended-clause-ready c =
    let es = c.evaluate_nested_goals.new.cx.entries in
    ready-settled es c.evaluate_nested_goals.new.self c.settle.new.self (map nested_goal c.in-Ended.left.items) c.settle.ensures c.evaluate_nested_goals.ensures.ready
    (subst (RoundsHeld es) c.in-Ended.is c.in_ok-evaluated.ensures.held)
