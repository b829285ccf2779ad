use Rattle.overlap_check.proofs.WorkedVerdicts.{foreign-leaf, uncovered-before-local, flags-of-leaves}
use Rattle.overlap_check.proofs.laws.worked_headers.Goals as goal

pub returns-clause-foreign : goal.returns-clause-foreign
returns-clause-foreign c = foreign-leaf

pub returns-clause-uncovered : goal.returns-clause-uncovered
returns-clause-uncovered c = uncovered-before-local

pub returns-clause-flags : goal.returns-clause-flags
returns-clause-flags c = flags-of-leaves
