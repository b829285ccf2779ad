use Rattle.goal_evaluator.proofs.Merges.{merge_is}
use Rattle.goal_evaluator.proofs.promises.merges_responses.Goals as goal

pub returns : goal.returns
returns g c = λ goal. let t = g.E.Evaluation.tables in let laws = c.requires.tables in let h = g.E.Evaluation.handled goal in let law = c.requires.handler goal in λ applicable is_test same is_same rs. merge_is t laws applicable is_test same is_same h.begin law.says_nothing rs
