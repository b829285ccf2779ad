use Rattle.type_terms.proofs.WorkedProofs.{two-ways, upcast}
use Rattle.type_terms.proofs.laws.worked_built_in_rules.Goals as goal

pub returns-clause-upcast : goal.returns-clause-upcast
returns-clause-upcast c = upcast

pub returns-clause-two_ways : goal.returns-clause-two_ways
returns-clause-two_ways c = two-ways
