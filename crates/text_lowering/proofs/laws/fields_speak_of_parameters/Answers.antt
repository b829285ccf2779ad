use Rattle.text_lowering.proofs.ReadySeen.{texts-fields}
use Rattle.text_lowering.proofs.laws.fields_speak_of_parameters.Goals as goal

pub returns : goal.returns
returns c = texts-fields
