use Rattle.sessions.proofs.WrittenWell.{ready-are-written}
use Rattle.sessions.proofs.laws.ready_impls_are_written_well.Goals as goal

pub returns : goal.returns
returns c es d ready = ready-are-written es d ready
