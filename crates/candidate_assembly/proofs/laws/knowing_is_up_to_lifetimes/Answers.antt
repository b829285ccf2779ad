use Rattle.candidate_assembly.proofs.Knowing.{knowable-same, knowable-erased}
use Rattle.candidate_assembly.proofs.laws.knowing_is_up_to_lifetimes.Goals as goal

pub returns-clause-declarations : goal.returns-clause-declarations
returns-clause-declarations c = λ W k r. knowable-same W k r

pub returns-clause-references : goal.returns-clause-references
returns-clause-references c = λ W k r. knowable-erased W k r
