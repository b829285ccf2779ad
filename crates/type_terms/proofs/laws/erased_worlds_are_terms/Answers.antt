use Rattle.type_terms.proofs.TermRules.{erased-is-terms, erased-views}
use Rattle.type_terms.proofs.laws.erased_worlds_are_terms.Goals as goal

pub returns : goal.returns
returns c = λ W. (erased-is-terms W, erased-views W)
