use Rattle.search_graph.specs.declared.delegate.Reply.TheVariants.{Result}
use Rattle.explain_traces.proofs.Steps.{stepped, hears-due}
use Rattle.explain_traces.proofs.frames.FrameWalk.hear.Goals as goal

pub returns-clause-walked : goal.returns-clause-walked
returns-clause-walked g c =
    let h = g.H.GoalHandler.meaning in
    let x = c.requires.walked in
    stepped h c.args.cx.now c.step.new.cx c.step.ensures.keeps c.args.self x (Result c.args.answer) c.step.new.frame c.in_ok-request.request c.args.self.candidates c.in_ok-request.ensures.steps
    (hears-due h c.args.cx.now c.args.self x c.args.input c.requires.asks.0 c.args.answer c.requires.asks.1) x.opened x.listed
