use Rattle.solver_completeness.proofs.GoalSets as Lemmas
use Rattle.solver_completeness.proofs.laws.goals_lead_to_goals.Goals as goal

pub returns : goal.returns
returns g c = Lemmas.goals-lead-to-goals g.J.Judging.Judged
