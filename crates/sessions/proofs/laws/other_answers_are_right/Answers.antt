use Rattle.sessions.proofs.OtherAnswers.{other-answers-are-right}
use Rattle.sessions.proofs.laws.other_answers_are_right.Goals as goal

pub returns : goal.returns
returns c = other-answers-are-right
