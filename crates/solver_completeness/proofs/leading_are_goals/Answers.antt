use Rattle.solver_completeness.proofs.LeadingGoals as Lemmas
use Rattle.solver_completeness.proofs.leading_are_goals.Goals as goal

pub returns : goal.returns
returns c = Lemmas.leading-are-goals
