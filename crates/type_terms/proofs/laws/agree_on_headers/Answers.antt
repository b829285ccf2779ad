use Rattle.type_terms.proofs.WiderProofs.{supers-above}
use Rattle.type_terms.proofs.WiderAnswers.{known-above, orphan-above}
use Rattle.type_terms.proofs.laws.agree_on_headers.Goals as goal

pub returns : goal.returns
returns c = λ t V U b k r. (orphan-above t V U b k r, known-above t V U b k r, supers-above t V U b r)
