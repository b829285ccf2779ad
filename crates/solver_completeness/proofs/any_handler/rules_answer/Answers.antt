use Rattle.solver_completeness.proofs.RuleAnswers as Lemmas
use Rattle.solver_completeness.proofs.any_handler.rules_answer.Goals as goal

pub returns : goal.returns
returns g c = Lemmas.rules_answer g.S.RuleSearching.handles
