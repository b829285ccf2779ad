use Rattle.goal_evaluator.proofs.Questions.{instance_of_question}
use Rattle.goal_evaluator.proofs.laws.question_laws.Goals as goal

pub returns : goal.returns
returns c = instance_of_question
