use Rattle.solver_completeness.proofs.ImplRows as Lemmas
use Rattle.solver_completeness.proofs.impls_are_ways.Goals as goal

pub returns : goal.returns
returns g m = Lemmas.impls-are-ways m
