use Rattle.search_graph.proofs.Graphs.{Keeps-trans}
use Rattle.solver_graph.specs.Contexts.{goal_of}
use Rattle.explain_traces.proofs.Steps.{m, begun}
use Rattle.explain_traces.proofs.frames.FrameWalk.begin.Goals as goal

pub returns-in_err-request-clause-keeps : goal.returns-in_err-request-clause-keeps
returns-in_err-request-clause-keeps g c =
    Keeps-trans (m g.H.GoalHandler.meaning) c.args.cx.now c.start.new.cx c.step.new.cx c.start.ensures.keeps c.step.ensures.keeps

pub returns-clause-keeps : goal.returns-clause-keeps
returns-clause-keeps g c =
    Keeps-trans (m g.H.GoalHandler.meaning) c.args.cx.now c.start.new.cx c.step.new.cx c.start.ensures.keeps c.step.ensures.keeps

pub returns-clause-walked : goal.returns-clause-walked
returns-clause-walked g c =
    begun g.H.GoalHandler.meaning c.start.new.cx c.step.new.cx c.step.ensures.keeps (goal_of c.args.cx.now c.args.input) c.in_ok-frame.frame c.step.new.frame c.in_ok-frame.ensures.started
    c.in_ok-request.request c.new-candidates.result c.in_ok-request.ensures.steps c.new-candidates.ensures.open c.new-candidates.ensures.finished
