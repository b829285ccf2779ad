use Rattle.inference.proofs.Growing.{can-before, faithful-before}
use Rattle.inference.proofs.laws.restoring_laws.Goals as goal

pub returns-clause-can : goal.returns-clause-can
returns-clause-can g c = λ f ks x i j can same. can-before g.H.GoalHandler.meaning f ks x i j can same

pub returns-clause-faithful : goal.returns-clause-faithful
returns-clause-faithful g c = λ f ks x i j can same. faithful-before g.H.GoalHandler.meaning f ks x i j can same
