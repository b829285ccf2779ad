use Rattle.std.proofs.Common.{◌∙◌, ap, sym, Err}
use Rattle.goal_evaluator.specs.Tables.{frame_tables}
use Rattle.goal_frames.proofs.Orders.{keeps_order}
use Rattle.solver_graph.specs.Contexts.{goal_of}
use Rattle.solver_graph.specs.Searching.{programs, handles, world_in}
use Rattle.solver_graph.specs.Searching.{solver_meaning}
use Rattle.solver_graph.proofs.Inputs.{one-number}
use Rattle.solver_graph.proofs.Results.{free-here, result-here}
use Rattle.solver_graph.proofs.searching.search.Goals as goal

-- no frame makes a request out of order
pub unreachable-requires : goal.unreachable-requires
unreachable-requires g c =
    keeps_order frame_tables (programs g.H.GoalHandler.meaning.goals) c.handlers_are_programs.ensures
    (handles g.H.GoalHandler.meaning)
    (world_in g.H.GoalHandler.meaning c.args.cx.now) (goal_of c.args.cx.now c.args.input)
    (c.evaluate_goal.ensures.protocol (c.in-Err-Protocol.is ∙ ap Err c.in-Err-Protocol.field-0-is))

pub returns-in_err-answer-in-Ok-clause-cached : goal.returns-in_err-answer-in-Ok-clause-cached
returns-in_err-answer-in-Ok-clause-cached g c =
    free-here (solver_meaning g.H.GoalHandler.meaning) c.args.cx.now c.evaluate_goal.new.cx c.evaluate_goal.ensures.keeps c.args.cache.now c.requires.cache c.args.input c.requires.input
    (λ i x e. one-number g.H.GoalHandler.meaning.IsReady c.args.cx.now i c.args.input x c.requires.input e)
    c.evaluate_goal.new.cache c.args.graph.now c.evaluate_goal.new.self c.evaluate_goal.ensures.cached

pub returns-in_ok-answer-in-Ok-clause-cached : goal.returns-in_ok-answer-in-Ok-clause-cached
returns-in_ok-answer-in-Ok-clause-cached g c =
    free-here (solver_meaning g.H.GoalHandler.meaning) c.args.cx.now c.evaluate_goal.new.cx c.evaluate_goal.ensures.keeps c.args.cache.now c.requires.cache c.args.input c.requires.input
    (λ i x e. one-number g.H.GoalHandler.meaning.IsReady c.args.cx.now i c.args.input x c.requires.input e)
    c.evaluate_goal.new.cache c.args.graph.now c.evaluate_goal.new.self c.evaluate_goal.ensures.cached

pub returns-in-Err-Memory-clause-cached : goal.returns-in-Err-Memory-clause-cached
returns-in-Err-Memory-clause-cached g c =
    free-here (solver_meaning g.H.GoalHandler.meaning) c.args.cx.now c.evaluate_goal.new.cx c.evaluate_goal.ensures.keeps c.args.cache.now c.requires.cache c.args.input c.requires.input
    (λ i x e. one-number g.H.GoalHandler.meaning.IsReady c.args.cx.now i c.args.input x c.requires.input e)
    c.evaluate_goal.new.cache c.args.graph.now c.evaluate_goal.new.self c.evaluate_goal.ensures.cached

pub returns-in-Err-Full-clause-cached : goal.returns-in-Err-Full-clause-cached
returns-in-Err-Full-clause-cached g c =
    free-here (solver_meaning g.H.GoalHandler.meaning) c.args.cx.now c.evaluate_goal.new.cx c.evaluate_goal.ensures.keeps c.args.cache.now c.requires.cache c.args.input c.requires.input
    (λ i x e. one-number g.H.GoalHandler.meaning.IsReady c.args.cx.now i c.args.input x c.requires.input e)
    c.evaluate_goal.new.cache c.args.graph.now c.evaluate_goal.new.self c.evaluate_goal.ensures.cached

pub returns-in-Err-Conflict-clause-cached : goal.returns-in-Err-Conflict-clause-cached
returns-in-Err-Conflict-clause-cached g c =
    free-here (solver_meaning g.H.GoalHandler.meaning) c.args.cx.now c.evaluate_goal.new.cx c.evaluate_goal.ensures.keeps c.args.cache.now c.requires.cache c.args.input c.requires.input
    (λ i x e. one-number g.H.GoalHandler.meaning.IsReady c.args.cx.now i c.args.input x c.requires.input e)
    c.evaluate_goal.new.cache c.args.graph.now c.evaluate_goal.new.self c.evaluate_goal.ensures.cached

pub returns-in_ok-answer-in-Ok-clause-found : goal.returns-in_ok-answer-in-Ok-clause-found
returns-in_ok-answer-in-Ok-clause-found g c =
    result-here (solver_meaning g.H.GoalHandler.meaning) c.args.cx.now c.evaluate_goal.new.cx c.evaluate_goal.ensures.keeps c.args.cache.now c.requires.cache c.args.input c.requires.input
    (λ i x e. one-number g.H.GoalHandler.meaning.IsReady c.args.cx.now i c.args.input x c.requires.input e)
    c.evaluate_goal.new.cache c.args.graph.now c.evaluate_goal.new.self c.in-Ok.of _ (sym c.in_ok-answer-in-Ok.ensures.is)
    (record { computed = c.in-Ok.ensures.computed; plain = c.in-Ok.ensures.plain }) c.in-Ok.ensures.known c.in-Ok.ensures.kept c.in-Ok.ensures.limits

pub returns-in-Err-Full-clause-full : goal.returns-in-Err-Full-clause-full
returns-in-Err-Full-clause-full g c = λ q. c.evaluate_goal.ensures.full (c.in-Err-Full.is ∙ ap Err c.in-Err-Full.field-0-is)
