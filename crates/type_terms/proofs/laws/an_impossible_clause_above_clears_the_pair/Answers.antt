use Rattle.type_terms.proofs.WiderSets.{impossible-above-clears}
use Rattle.type_terms.proofs.laws.an_impossible_clause_above_clears_the_pair.Goals as goal

pub returns : goal.returns
returns c = impossible-above-clears
