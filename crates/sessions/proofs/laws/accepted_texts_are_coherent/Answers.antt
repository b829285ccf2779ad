use Rattle.overlap_check.proofs.Contracts.{headline}
use Rattle.sessions.proofs.CoherentTexts.{accepted-texts-are-coherent}
use Rattle.sessions.proofs.laws.accepted_texts_are_coherent.Goals as goal

pub returns : goal.returns
returns c = accepted-texts-are-coherent headline
