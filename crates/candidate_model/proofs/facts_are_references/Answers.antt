use Rattle.candidate_model.proofs.Facts.{references-come-back, proofs-of-facts}
use Rattle.candidate_model.proofs.facts_are_references.Goals as goal

pub returns-clause-back : goal.returns-clause-back
returns-clause-back g E = references-come-back E

pub returns-clause-proofs : goal.returns-clause-proofs
returns-clause-proofs g V = proofs-of-facts V
