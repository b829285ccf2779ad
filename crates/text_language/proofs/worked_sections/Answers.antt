use Rattle.std.proofs.Common.{refl}
use Rattle.text_language.specs.Tokens.{tokens_of}
use Rattle.text_language.proofs.worked_sections.Goals as goal

pub returns-clause-faults : goal.returns-clause-faults
unfolding tokens_of
returns-clause-faults c = (((refl, (refl, (refl, (refl, tt)))), refl), ((refl, (refl, (refl, (refl, (refl, tt))))), refl), ((refl, (refl, (refl, (refl, (refl, tt))))), refl), ((refl, (refl, tt)), refl), ((refl, (refl, (refl, tt))), refl), ((refl, (refl, tt)), refl), ((refl, (refl, (refl, tt))), refl), ((refl, (refl, (refl, (refl, (refl, tt))))), refl), ((refl, (refl, (refl, (refl, (refl, (refl, tt)))))), refl), ((refl, (refl, tt)), refl))

pub returns-clause-declared : goal.returns-clause-declared
unfolding tokens_of
returns-clause-declared c = ((refl, (refl, (refl, (refl, (refl, (refl, (refl, (refl, (refl, (refl, (refl, (refl, (refl, (refl, tt)))))))))))))), refl)
