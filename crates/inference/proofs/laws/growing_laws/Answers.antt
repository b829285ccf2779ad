use Rattle.inference.proofs.Growing.{further, itself}
use Rattle.inference.proofs.laws.growing_laws.Goals as goal

pub returns-clause-itself : goal.returns-clause-itself
returns-clause-itself c = itself

pub returns-clause-further : goal.returns-clause-further
returns-clause-further c = further
