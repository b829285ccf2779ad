use Rattle.sessions.proofs.OpaqueImpls.{solvers-impls-apply}
use Rattle.sessions.proofs.laws.impls_apply.Goals as goal

pub returns : goal.returns
returns c = solvers-impls-apply
