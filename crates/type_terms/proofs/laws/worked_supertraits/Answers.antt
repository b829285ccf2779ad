use Rattle.type_terms.proofs.WorkedSupers.{a-missing-supertrait, by-another-impl, by-a-where-clause, by-a-supertrait, no-dyn-is-sized}
use Rattle.type_terms.proofs.laws.worked_supertraits.Goals as goal

pub returns-clause-missing : goal.returns-clause-missing
returns-clause-missing c = a-missing-supertrait

pub returns-clause-another : goal.returns-clause-another
returns-clause-another c = by-another-impl

pub returns-clause-clause : goal.returns-clause-clause
returns-clause-clause c = by-a-where-clause

pub returns-clause-of_clause : goal.returns-clause-of_clause
returns-clause-of_clause c = by-a-supertrait

pub returns-clause-no_dyn : goal.returns-clause-no_dyn
returns-clause-no_dyn c = no-dyn-is-sized
