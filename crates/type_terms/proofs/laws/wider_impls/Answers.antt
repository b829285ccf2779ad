use Rattle.type_terms.proofs.WiderImpls.{common-above, fewer-is-wider, put-in-is-wider, widened-is-above}
use Rattle.type_terms.proofs.laws.wider_impls.Goals as goal

pub returns-clause-one : goal.returns-clause-one
returns-clause-one c = (fewer-is-wider, put-in-is-wider)

pub returns-clause-worlds : goal.returns-clause-worlds
returns-clause-worlds c = widened-is-above

pub returns-clause-meet : goal.returns-clause-meet
returns-clause-meet c = λ i j x y f g p q m. (common-above i j x y f g p q m).above
