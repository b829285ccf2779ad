use Rattle.std.proofs.Common.{◌∙◌, ap}
use Rattle.search_graph.specs.declared.delegate.Reply.TheVariants.{Entered}
use Rattle.explain_traces.proofs.Steps.{stepped, enters-due}
use Rattle.explain_traces.proofs.frames.FrameWalk.enter.Goals as goal

pub returns-clause-walked : goal.returns-clause-walked
returns-clause-walked g c =
    let h = g.H.GoalHandler.meaning in
    let x = c.requires in
    stepped h c.args.cx.now c.step.new.cx c.step.ensures.keeps c.args.self x Entered c.step.new.frame c.in_ok-request.request c.enter.new.self c.in_ok-request.ensures.steps
    (enters-due h c.args.cx.now c.args.self x (c.turn.ensures.enters c.in-Enter.is) c.in-Ok.ensures.entered.0) c.in-Ok.ensures.entered.1 (ap (λ l. l.items) c.enter.ensures.finished ∙ x.listed)
