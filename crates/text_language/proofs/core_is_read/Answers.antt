use Rattle.std.proofs.Common.{refl}
use Rattle.text_language.specs.Tokens.{tokens_of}
use Rattle.text_language.proofs.core_is_read.Goals as goal

pub returns-clause-read : goal.returns-clause-read
unfolding tokens_of
returns-clause-read c = ((refl, (refl, (refl, (refl, (refl, (refl, (refl, (refl, (refl, (refl, (refl, (refl, (refl, (refl, (refl, (refl, (refl, (refl, (refl, (refl, (refl, (refl, (refl, (refl, (refl, (refl, (refl, (refl, (refl, (refl, (refl, (refl, (refl, (refl, (refl, (refl, (refl, (refl, (refl, (refl, (refl, (refl, (refl, (refl, (refl, (refl, (refl, (refl, (refl, tt))))))))))))))))))))))))))))))))))))))))))))))))), refl)

pub returns-clause-erased : goal.returns-clause-erased
returns-clause-erased c = refl
