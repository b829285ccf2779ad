use Rattle.type_terms.proofs.WorkedProofs.{an-impossible-clause, some-day, only-lifetimes, with-core}
use Rattle.type_terms.proofs.laws.worked_pairs.Goals as goal

pub returns-clause-impossible : goal.returns-clause-impossible
returns-clause-impossible c = an-impossible-clause

pub returns-clause-some_day : goal.returns-clause-some_day
returns-clause-some_day c = some-day

pub returns-clause-lifetimes : goal.returns-clause-lifetimes
returns-clause-lifetimes c = only-lifetimes

pub returns-clause-with_core : goal.returns-clause-with_core
returns-clause-with_core c = with-core
