use Rattle.goal_evaluator.proofs.Plans.{plan_is_lawful}
use Rattle.goal_evaluator.proofs.promises.plans_are_lawful.Goals as goal

pub returns : goal.returns
returns g c = plan_is_lawful g.P.HasPlan.tables g.P.HasPlan.plan c.requires.plan
