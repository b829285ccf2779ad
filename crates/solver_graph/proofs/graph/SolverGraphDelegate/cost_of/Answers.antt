use Rattle.solver_graph.proofs.graph.SolverGraphDelegate.cost_of.Goals as goal

pub depth-levels-requires : goal.depth-levels-requires
depth-levels-requires g c = (c.input-goal.ensures.held c.args.cx.now.interner.entries c.requires.0.store).predicate
