use Rattle.text_lowering.proofs.Begins.{texts-begin}
use Rattle.text_lowering.proofs.laws.impls_begin_declared.Goals as goal

pub returns : goal.returns
returns c = λ bytes d h. texts-begin bytes d h
