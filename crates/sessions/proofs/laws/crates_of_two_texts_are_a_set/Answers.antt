use Rattle.sessions.proofs.WorkedSets.{crates-of-two-texts}
use Rattle.sessions.proofs.laws.crates_of_two_texts_are_a_set.Goals as goal

pub returns : goal.returns
returns c = crates-of-two-texts
