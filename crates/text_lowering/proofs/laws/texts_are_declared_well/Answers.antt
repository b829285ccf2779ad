use Rattle.text_lowering.proofs.WellSeen.{texts-seen-well}
use Rattle.text_lowering.proofs.laws.texts_are_declared_well.Goals as goal

pub returns : goal.returns
returns c = texts-seen-well
