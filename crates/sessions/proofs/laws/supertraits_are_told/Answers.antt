use Rattle.sessions.proofs.SupertraitAnswers.{supertraits-are-told}
use Rattle.sessions.proofs.laws.supertraits_are_told.Goals as goal

pub returns : goal.returns
returns c = supertraits-are-told
