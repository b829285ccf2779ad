use Rattle.type_terms.proofs.ViewLaws.{cleared-in-set}
use Rattle.type_terms.proofs.laws.an_impossible_clause_clears_the_pair.Goals as goal

pub returns : goal.returns
returns c = cleared-in-set
