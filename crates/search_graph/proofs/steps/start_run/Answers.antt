use Rattle.std.proofs.Common.{refl}
use Rattle.search_graph.proofs.Graphs.{Keeps-trans}
use Rattle.search_graph.proofs.steps.start_run.Goals as goal

pub returns-in_err-request-clause-keeps : goal.returns-in_err-request-clause-keeps
returns-in_err-request-clause-keeps g c = Keeps-trans g.D.Delegate.meaning c.args.cx.now c.start.new.cx c.step.new.cx c.start.ensures.keeps c.step.ensures.keeps

pub returns-clause-keeps : goal.returns-clause-keeps
returns-clause-keeps g c = Keeps-trans g.D.Delegate.meaning c.args.cx.now c.start.new.cx c.step.new.cx c.start.ensures.keeps c.step.ensures.keeps

pub returns-clause-begun : goal.returns-clause-begun
returns-clause-begun g c =
    let m = g.D.Delegate.meaning in
    let steps = c.in_ok-request.ensures.steps in
    let told = steps.1 (m.goal_of c.args.cx.now c.args.entry.input) _ c.in_ok-frame.ensures.started refl in
    (told.0, steps.0, rw c.start.ensures.keeps.world at told.1)
