use Rattle.candidate_model.proofs.Covered.{coherence-is-covered, coherence-is-lawful}
use Rattle.candidate_model.proofs.BoundTerms.{bounds-are-left}
use Rattle.candidate_model.proofs.coherence_is_covered.Goals as goal

pub returns-clause-covered : goal.returns-clause-covered
returns-clause-covered g applicable = coherence-is-covered applicable

pub returns-clause-lawful : goal.returns-clause-lawful
returns-clause-lawful g applicable = coherence-is-lawful applicable

pub returns-clause-bounds : goal.returns-clause-bounds
returns-clause-bounds g m = bounds-are-left m
