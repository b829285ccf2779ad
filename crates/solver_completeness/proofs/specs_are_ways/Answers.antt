use Rattle.solver_completeness.proofs.SolverSelections as Lemmas
use Rattle.solver_completeness.proofs.specs_are_ways.Goals as goal

pub returns-clause-outside : goal.returns-clause-outside
returns-clause-outside g c = Lemmas.specs-are-ways g.J.Judging.Judged

pub returns-clause-coherence : goal.returns-clause-coherence
returns-clause-coherence g c = Lemmas.coherence-specs-are-ways g.J.Judging.Judged
