use Rattle.std.proofs.Common.{refl}
use Rattle.text_language.specs.Tokens.{tokens_of}
use Rattle.text_language.proofs.worked_fine_points.Goals as goal

pub returns-clause-points : goal.returns-clause-points
unfolding tokens_of
returns-clause-points c = (((refl, (refl, tt)), refl), ((refl, (refl, tt)), refl), ((refl, tt), refl), ((refl, (refl, (refl, tt))), refl), ((refl, (refl, tt)), refl), ((refl, (refl, (refl, tt))), refl), ((refl, (refl, (refl, tt))), refl), ((refl, (refl, (refl, tt))), refl), ((refl, (refl, (refl, (refl, tt)))), refl), ((refl, (refl, (refl, tt))), refl), ((refl, (refl, (refl, (refl, tt)))), refl))

pub returns-clause-depths : goal.returns-clause-depths
unfolding tokens_of
returns-clause-depths c = (((refl, (refl, (refl, tt))), refl), ((refl, (refl, (refl, tt))), refl), ((refl, (refl, (refl, (refl, tt)))), refl), ((refl, (refl, (refl, (refl, tt)))), refl))

pub returns-clause-bounds : goal.returns-clause-bounds
unfolding tokens_of
returns-clause-bounds c = (((refl, (refl, (refl, tt))), refl), ((refl, (refl, (refl, tt))), refl))
