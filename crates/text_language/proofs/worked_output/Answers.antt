use Rattle.std.proofs.Common.{refl}
use Rattle.text_language.proofs.worked_output.Goals as goal

pub returns-clause-printed : goal.returns-clause-printed
returns-clause-printed c = (refl, refl, refl, refl, refl, refl, refl)

pub returns-clause-values : goal.returns-clause-values
returns-clause-values c = (refl, refl)
