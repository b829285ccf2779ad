use Rattle.goal_frames.proofs.Numbers.{input-id-eq, response-id-eq}
use Rattle.goal_frames.proofs.laws.number_laws.Goals as goal

pub returns-clause-inputs : goal.returns-clause-inputs
returns-clause-inputs c = input-id-eq

pub returns-clause-responses : goal.returns-clause-responses
returns-clause-responses c = response-id-eq
