use Rattle.sessions.proofs.ExactRefusals as Lemmas
use Rattle.sessions.proofs.laws.refusals_are_exact.Goals as goal

pub returns : goal.returns
returns c = Lemmas.refusals-are-exact
