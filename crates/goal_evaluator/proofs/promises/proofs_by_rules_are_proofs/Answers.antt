use Rattle.goal_evaluator.proofs.ByRules.{proofs_are_proofs}
use Rattle.goal_evaluator.proofs.promises.proofs_by_rules_are_proofs.Goals as goal

pub returns : goal.returns
returns c = proofs_are_proofs
