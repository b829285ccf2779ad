use Rattle.candidate_assembly.proofs.GoingOn.{walks-go-on}
use Rattle.candidate_assembly.proofs.Histories.{histories-tell}
use Rattle.candidate_assembly.proofs.laws.histories_tell_what_is_next.Goals as goal

pub returns-clause-next : goal.returns-clause-next
returns-clause-next g m = histories-tell m

pub returns-clause-impls : goal.returns-clause-impls
returns-clause-impls g es = walks-go-on es
