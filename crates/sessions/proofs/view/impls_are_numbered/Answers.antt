use Rattle.sessions.proofs.ImplNumbers.{impls-numbered}
use Rattle.sessions.proofs.view.impls_are_numbered.Goals as goal

pub returns : goal.returns
returns c = impls-numbered
