use Rattle.solver_graph.proofs.Growing.{keeps}
use Rattle.solver_graph.proofs.graph.SolverGraphDelegate.initial_provisional_result.Goals as goal

pub returns-clause-keeps : goal.returns-clause-keeps
returns-clause-keeps g c =
    let h = g.H.GoalHandler in
    keeps h.meaning g.met.H.GoalHandler.lawful.world_kept c.args.cx.now c.silent_answer.new.cx c.requires.0 c.silent_answer.ensures.advances
