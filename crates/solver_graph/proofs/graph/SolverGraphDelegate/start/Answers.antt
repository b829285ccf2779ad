use Rattle.std.proofs.Common.{[], sym, subst}
use Rattle.goal_frames.specs.Meanings.{StayNotes}
use Rattle.solver_graph.specs.Contexts.{goal_of}
use Rattle.solver_graph.specs.Searching.{FrameHasHeard}
use Rattle.solver_graph.proofs.Growing.{started}
use Rattle.solver_graph.proofs.graph.SolverGraphDelegate.start.Goals as goal

pub returns-clause-started : goal.returns-clause-started
returns-clause-started g c =
    let h = g.H.GoalHandler in
    let cx = c.args.cx.now in
    let asked = goal_of cx c.args.input.now in
    let es = cx.interner.entries in
    let x = c.in_ok-goal in
    subst (FrameHasHeard h.meaning cx asked []) (sym c.in_ok-frame.ensures.is)
    (started h.meaning g.met.H.GoalHandler.lawful.world_kept cx c.args.input.now x.goal c.new-begun.result c.requires x.ensures.is c.new-begun.ensures.goal
    (c.new-begun.ensures.heard es (h.meaning.world cx.handler es) asked.0 asked.1 (x.ensures.held es c.requires.0.store))
    (subst (StayNotes h.meaning cx.handler es) (sym c.new-begun.ensures.notes) (λ later k. g.met.H.GoalHandler.lawful.no_notes cx.handler later)))
