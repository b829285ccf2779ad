use Rattle.overlap_check.proofs.Written.{held-instantiable}
use Rattle.overlap_check.proofs.laws.written_impls_are_instantiable.Goals as goal

pub returns : goal.returns
returns c = held-instantiable
