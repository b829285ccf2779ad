use Rattle.type_terms.proofs.TermRules.{rules-ask-terms}
use Rattle.type_terms.proofs.laws.rules_of_terms_ask_terms.Goals as goal

pub returns : goal.returns
returns c = rules-ask-terms
