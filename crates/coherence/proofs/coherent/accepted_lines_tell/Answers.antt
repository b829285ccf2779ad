use Rattle.coherence.proofs.AcceptedTexts.{accepted-texts-hold}
use Rattle.coherence.proofs.coherent.accepted_lines_tell.Goals as goal

pub returns : goal.returns
returns c = accepted-texts-hold c.accepted_texts_are_coherent.ensures
