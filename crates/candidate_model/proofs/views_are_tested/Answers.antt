use Rattle.candidate_model.proofs.DeclaredWell.{tests-tell, core-is-declared-well}
use Rattle.candidate_model.proofs.HeldViews.{held-is-declared-well}
use Rattle.candidate_model.proofs.views_are_tested.Goals as goal

pub returns-clause-tell : goal.returns-clause-tell
returns-clause-tell g V = tests-tell V

pub returns-clause-core : goal.returns-clause-core
returns-clause-core g = core-is-declared-well

pub returns-clause-held : goal.returns-clause-held
returns-clause-held g es = held-is-declared-well es
