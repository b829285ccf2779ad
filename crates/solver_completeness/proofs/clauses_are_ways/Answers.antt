use Rattle.solver_completeness.proofs.Clauses as Lemmas
use Rattle.solver_completeness.proofs.clauses_are_ways.Goals as goal

pub returns : goal.returns
returns g m = Lemmas.clauses-are-ways m
