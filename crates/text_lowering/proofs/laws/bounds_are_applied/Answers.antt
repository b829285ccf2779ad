use Rattle.text_lowering.proofs.ReadySeen.{texts-bounds}
use Rattle.text_lowering.proofs.laws.bounds_are_applied.Goals as goal

pub returns : goal.returns
returns c = texts-bounds
