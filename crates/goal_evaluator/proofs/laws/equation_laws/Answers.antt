use Rattle.goal_evaluator.proofs.Assignments.{equations_narrow, equations_keep, equations_stay_made}
use Rattle.goal_evaluator.proofs.laws.equation_laws.Goals as goal

pub returns-clause-narrows : goal.returns-clause-narrows
returns-clause-narrows c = equations_narrow

pub returns-clause-keeps : goal.returns-clause-keeps
returns-clause-keeps c = equations_keep

pub returns-clause-made : goal.returns-clause-made
returns-clause-made c = equations_stay_made
