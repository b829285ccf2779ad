use Rattle.std.proofs.Common.{rules}
use Rattle.goal_evaluator.proofs.Contexts.{ready-same, ready-with-room}
use Rattle.goal_evaluator.proofs.context.EvalCtxt.evaluate_nested_goals.Goals as goal

pub returns-in_ok-make_room-in-Ok-Waits-clause-ready : goal.returns-in_ok-make_room-in-Ok-Waits-clause-ready
returns-in_ok-make_room-in-Ok-Waits-clause-ready c = ready-with-room c.args.cx.now.entries c.run_rounds.new.cx.entries c.args.self.now _ c.run_rounds.ensures.terms.grew.keeps (search rules) c.requires.ready

pub returns-in_err-make_room-in-Ok-Waits-clause-ready : goal.returns-in_err-make_room-in-Ok-Waits-clause-ready
returns-in_err-make_room-in-Ok-Waits-clause-ready c =
    ready-same c.args.cx.now.entries c.run_rounds.new.cx.entries c.args.self.now _ c.run_rounds.ensures.terms.grew.keeps (search rules) c.requires.ready

pub returns-in-Err-clause-ready : goal.returns-in-Err-clause-ready
returns-in-Err-clause-ready c = ready-same c.args.cx.now.entries c.run_rounds.new.cx.entries c.args.self.now _ c.run_rounds.ensures.terms.grew.keeps (search rules) c.requires.ready
