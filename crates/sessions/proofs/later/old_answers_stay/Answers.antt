use Rattle.sessions.proofs.LostImpls.{old-proofs-stay, old-refutations-stay}
use Rattle.sessions.proofs.later.old_answers_stay.Goals as goal

pub returns-clause-yes : goal.returns-clause-yes
returns-clause-yes c = old-proofs-stay

pub returns-clause-no : goal.returns-clause-no
returns-clause-no c = old-refutations-stay
