use Rattle.solver_completeness.proofs.ReadBack.{outside-comes-back, coherence-comes-back}
use Rattle.solver_completeness.proofs.ways_come_back.Goals as goal

pub returns-clause-outside : goal.returns-clause-outside
returns-clause-outside g V = outside-comes-back V

pub returns-clause-coherence : goal.returns-clause-coherence
returns-clause-coherence g m = coherence-comes-back m
