use Rattle.candidate_model.proofs.NestedGoals.{nested-goals-are-few, number-is-small}
use Rattle.candidate_model.proofs.nested_goals_are_few.Goals as goal

pub returns-clause-few : goal.returns-clause-few
returns-clause-few g m = nested-goals-are-few m

pub returns-clause-small : goal.returns-clause-small
returns-clause-small g V = number-is-small V
