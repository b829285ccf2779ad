use Rattle.std.proofs.Common.{refl}
use Rattle.text_language.specs.Tokens.{tokens_of}
use Rattle.text_language.proofs.worked_faults.Goals as goal

pub returns : goal.returns
unfolding tokens_of
returns c = (((refl, tt), refl), ((refl, (refl, tt)), refl), ((refl, (refl, tt)), refl), ((refl, (refl, (refl, (refl, tt)))), refl), ((refl, (refl, (refl, (refl, tt)))), refl), ((refl, (refl, (refl, tt))), refl), ((refl, (refl, tt)), refl), ((refl, (refl, tt)), refl), ((refl, (refl, (refl, tt))), refl), ((refl, (refl, tt)), refl), ((refl, (refl, (refl, tt))), refl), ((refl, (refl, (refl, tt))), refl), ((refl, (refl, (refl, (refl, tt)))), refl), ((refl, (refl, (refl, (refl, tt)))), refl))
