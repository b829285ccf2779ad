use Rattle.type_terms.proofs.SupersProved.{supers-proved-for-all}
use Rattle.type_terms.proofs.laws.supertraits_are_proved.Goals as goal

pub returns : goal.returns
returns c = supers-proved-for-all
