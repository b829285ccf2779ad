use Rattle.orphan_check.proofs.Visiting.{no-error-both, erased-visits}
use Rattle.orphan_check.proofs.laws.walks_and_errors.Goals as goal

pub returns-clause-errors : goal.returns-clause-errors
returns-clause-errors c = λ V d args. no-error-both V d args

pub returns-clause-erased : goal.returns-clause-erased
returns-clause-erased c = λ V d args. erased-visits V d args
