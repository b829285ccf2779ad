use Rattle.overlap_check.proofs.AnyOrder.{headline-in-any-order}
use Rattle.overlap_check.proofs.Contracts.{headline, answers-hold}
use Rattle.sessions.proofs.LinkedTexts.{texts-obey-their-rules, answered-sets-are-linked, answered-sets-are-coherent, answered-sets-in-any-order}
use Rattle.sessions.proofs.laws.answered_sets_are_linked.Goals as goal

pub returns-clause-rules : goal.returns-clause-rules
returns-clause-rules c = texts-obey-their-rules

pub returns-clause-linked : goal.returns-clause-linked
returns-clause-linked c = answered-sets-are-linked

pub returns-clause-coherent : goal.returns-clause-coherent
returns-clause-coherent c = answered-sets-are-coherent headline answers-hold

pub returns-clause-any_order : goal.returns-clause-any_order
returns-clause-any_order c = answered-sets-in-any-order headline-in-any-order
