use Rattle.text_lowering.proofs.ReadySeen.{texts-headers, texts-impls}
use Rattle.text_lowering.proofs.laws.impls_speak_of_parameters.Goals as goal

pub returns-clause-kinds : goal.returns-clause-kinds
returns-clause-kinds c = texts-headers

pub returns-clause-speaks : goal.returns-clause-speaks
returns-clause-speaks c = texts-impls
