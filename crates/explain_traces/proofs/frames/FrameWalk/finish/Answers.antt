use Rattle.std.proofs.Common.{◌∙◌, ap, false, [], ◌∷◌, ◌++◌}
use Rattle.search_graph.specs.declared.delegate.Reply.TheVariants.{Finished}
use Rattle.explain_traces.proofs.Steps.{stepped, finishes-due}
use Rattle.explain_traces.proofs.frames.FrameWalk.finish.Goals as goal

pub returns-clause-walked : goal.returns-clause-walked
returns-clause-walked g c =
    let h = g.H.GoalHandler.meaning in
    let x = c.requires in
    stepped h c.args.cx.now c.step.new.cx c.step.ensures.keeps c.args.self x (Finished c.in-Ok.number) c.step.new.frame c.in_ok-request.request c.finish.new.self c.in_ok-request.ensures.steps
    (finishes-due h c.args.cx.now c.args.self x c.in-Ok.number (c.turn.ensures.finishes c.in-Finish.is) c.in-Ok.ensures.open.0 c.in-Ok.ensures.number) c.in-Ok.ensures.open.1 (c.in-Ok.ensures.finished ∙ ap (λ l. l ++ false ∷ []) x.listed)
