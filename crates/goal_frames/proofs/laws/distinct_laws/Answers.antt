use Rattle.goal_frames.proofs.Numbers.{one-goal, one-answer, numbers-tell-questions}
use Rattle.goal_frames.proofs.laws.distinct_laws.Goals as goal

pub returns-clause-inputs : goal.returns-clause-inputs
returns-clause-inputs c = λ es s i j q law held h g. one-goal es s i j q law held h g

pub returns-clause-responses : goal.returns-clause-responses
returns-clause-responses c = λ es s i j a law held h g. one-answer es s i j a law held h g

pub returns-clause-questions : goal.returns-clause-questions
returns-clause-questions c = numbers-tell-questions
