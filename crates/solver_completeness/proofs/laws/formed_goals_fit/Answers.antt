use Rattle.solver_completeness.proofs.FormedForms as Lemmas
use Rattle.solver_completeness.proofs.laws.formed_goals_fit.Goals as goal

pub returns : goal.returns
returns c = Lemmas.formed-goals-fit
