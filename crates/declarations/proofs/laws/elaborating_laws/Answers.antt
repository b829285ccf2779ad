use Rattle.std.proofs.Common.{refl}
use Rattle.declarations.proofs.laws.elaborating_laws.Goals as goal

pub returns-clause-begins : goal.returns-clause-begins
returns-clause-begins c = λ V r. refl

pub returns-clause-order : goal.returns-clause-order
returns-clause-order c = refl
