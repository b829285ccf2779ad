use Rattle.type_terms.proofs.WiderAnswers.{known-has-rule}
use Rattle.type_terms.proofs.laws.known_has_a_rule_above.Goals as goal

pub returns : goal.returns
returns c = known-has-rule
