use Rattle.type_terms.proofs.WiderRules.{rules-above}
use Rattle.type_terms.proofs.WiderProofs.{above-has-rules}
use Rattle.type_terms.proofs.laws.rules_hold_above.Goals as goal

pub returns-clause-each : goal.returns-clause-each
returns-clause-each c = rules-above

pub returns-clause-together : goal.returns-clause-together
returns-clause-together c = above-has-rules
