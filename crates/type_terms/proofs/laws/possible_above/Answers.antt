use Rattle.type_terms.proofs.WiderAnswers.{possible-above}
use Rattle.type_terms.proofs.laws.possible_above.Goals as goal

pub returns : goal.returns
returns c = λ t V U b keep supers. possible-above t V U b keep supers
