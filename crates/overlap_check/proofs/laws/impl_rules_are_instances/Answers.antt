use Rattle.overlap_check.proofs.ImplRulesLaw.{impl-rules-are-instances}
use Rattle.overlap_check.proofs.laws.impl_rules_are_instances.Goals as goal

pub returns : goal.returns
returns c = impl-rules-are-instances
