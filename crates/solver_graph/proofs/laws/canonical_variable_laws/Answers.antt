use Rattle.solver_graph.proofs.WithoutCanonical.{evaluations-keep-out}
use Rattle.solver_graph.proofs.laws.canonical_variable_laws.Goals as goal

pub returns : goal.returns
returns c = evaluations-keep-out
