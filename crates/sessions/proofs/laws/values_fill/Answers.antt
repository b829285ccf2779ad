use Rattle.sessions.proofs.Filled.{values-fill}
use Rattle.sessions.proofs.laws.values_fill.Goals as goal

pub returns : goal.returns
returns c = values-fill
