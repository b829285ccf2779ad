use Rattle.type_terms.proofs.WiderAnswers.{above-covers}
use Rattle.type_terms.proofs.laws.above_covers.Goals as goal

pub returns : goal.returns
returns c = above-covers
