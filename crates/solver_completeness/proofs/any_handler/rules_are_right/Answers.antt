use Rattle.solver_completeness.proofs.RuleAnswers as Lemmas
use Rattle.solver_completeness.proofs.any_handler.rules_are_right.Goals as goal

pub returns : goal.returns
returns g c = Lemmas.rules_are_right g.S.RuleSearching.handles g.S.RuleSearching.Holds
