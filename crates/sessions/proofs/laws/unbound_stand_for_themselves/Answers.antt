use Rattle.sessions.proofs.Itself.{themselves, themselves-solve, themselves-read}
use Rattle.sessions.proofs.laws.unbound_stand_for_themselves.Goals as goal

pub returns : goal.returns
returns c = λ es t ready. (themselves es t ready, themselves-solve es t ready, themselves-read es t ready)
