-- Responses applied to a table. Those that do not fit the goal change nothing.
use Rattle.std.proofs.Common.{◌≡◌, true, false, List, ap, Some, if◌then◌else◌}
use Rattle.infer_table.specs.Unification.{TableTrees}
use Rattle.infer_table.specs.Values.{Value}
use Rattle.infer_table.specs.Responses.{AnswerTrees}
use Rattle.infer_table.specs.Answers.{is_answer_to}
use Rattle.infer_table.specs.Applied.{applied}
use Rattle.goal_evaluator.specs.Evaluating.{put_into}

pub put-applied : (t : TableTrees) (vs : List Value) (a : AnswerTrees) → is_answer_to vs a ≡ true → put_into t vs a ≡ applied t vs a
unfolding put_into
put-applied t vs a e = ap (λ b. if b then applied t vs a else Some t) e

pub put-nothing : (t : TableTrees) (vs : List Value) (a : AnswerTrees) → is_answer_to vs a ≡ false → put_into t vs a ≡ Some t
unfolding put_into
put-nothing t vs a e = ap (λ b. if b then applied t vs a else Some t) e
