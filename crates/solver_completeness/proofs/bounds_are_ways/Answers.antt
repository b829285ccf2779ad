use Rattle.solver_completeness.proofs.BoundRows as Lemmas
use Rattle.solver_completeness.proofs.bounds_are_ways.Goals as goal

pub returns : goal.returns
returns g c = Lemmas.bound-rows-are-ways g.J.Judging.Judged
