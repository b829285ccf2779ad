use Rattle.type_terms.proofs.Sees.{sees-through}
use Rattle.type_terms.proofs.laws.users_see_what_their_uses_see.Goals as goal

pub returns : goal.returns
returns c = λ W vs rank l. sees-through W vs rank l.joined
