use Rattle.solver_graph.proofs.Growing.{is-there}
use Rattle.solver_graph.proofs.context.SolverCx.answer.Goals as goal

pub copy_response-requires : goal.copy_response-requires
copy_response-requires g c = is-there g.H.GoalHandler.meaning.IsReady c.args.self.now c.in-Some.id c.args.of.now c.in-Some.is c.requires
