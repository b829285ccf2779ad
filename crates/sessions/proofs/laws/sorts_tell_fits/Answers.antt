use Rattle.sessions.proofs.Fitting as Lemmas
use Rattle.sessions.proofs.laws.sorts_tell_fits.Goals as goal

pub returns : goal.returns
returns c = Lemmas.sorts-tell-fits
