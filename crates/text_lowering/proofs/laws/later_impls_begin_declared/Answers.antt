use Rattle.text_lowering.proofs.Begins.{later-begin}
use Rattle.text_lowering.proofs.laws.later_impls_begin_declared.Goals as goal

pub returns : goal.returns
returns c = λ bytes d h. later-begin bytes d h
