use Rattle.infer_table.proofs.Numbers.{goal-held-later}
use Rattle.infer_table.specs.Responses.{answer_trees}
use Rattle.goal_frames.specs.Stores.{input_at, response_at, asked_goal}
use Rattle.goal_frames.proofs.Answers.{response-held-later, answer-later}
use Rattle.goal_frames.proofs.Numbers.{goal-later, same-at}
use Rattle.goal_frames.proofs.laws.interner_laws.Goals as goal

pub returns-clause-held : goal.returns-clause-held
returns-clause-held c = λ old new s k h. record {
  inputs = λ i a at. goal-held-later old new k a.goal (h.inputs i a at);
  responses = λ i r at. response-held-later old new k r (h.responses i r at);
}

pub returns-clause-goals : goal.returns-clause-goals
returns-clause-goals c = λ old new s i k h. same-at (asked_goal new) (asked_goal old) (input_at s i) (λ a at. goal-later old new k a (h.inputs i a at))

pub returns-clause-answers : goal.returns-clause-answers
returns-clause-answers c = λ old new s i k h. same-at (answer_trees new) (answer_trees old) (response_at s i) (λ r at. answer-later old new k r (h.responses i r at))
