use Rattle.overlap_check.proofs.Contracts.{headline}
use Rattle.sessions.proofs.CoherentTexts.{held-texts-are-coherent}
use Rattle.sessions.proofs.laws.held_texts_are_coherent.Goals as goal

pub returns : goal.returns
returns c = held-texts-are-coherent headline
