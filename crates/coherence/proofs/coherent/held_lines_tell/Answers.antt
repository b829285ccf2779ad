use Rattle.coherence.proofs.AcceptedTexts.{held-texts-hold}
use Rattle.coherence.proofs.coherent.held_lines_tell.Goals as goal

pub returns : goal.returns
returns c = held-texts-hold c.held_texts_are_coherent.ensures
