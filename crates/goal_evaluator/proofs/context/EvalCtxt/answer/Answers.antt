use Rattle.goal_evaluator.proofs.Shortages.{kind-at-limit}
use Rattle.goal_evaluator.proofs.context.EvalCtxt.answer.Goals as goal

pub returns-in-Maybe-Overflow-clause-terms : goal.returns-in-Maybe-Overflow-clause-terms
returns-in-Maybe-Overflow-clause-terms c = record {
  grew = c.empty_answer.ensures.grew;
  full = kind-at-limit c.empty_answer.new.cx.entries c.empty_answer.new.cx.limit c.empty_answer.result c.empty_answer.ensures.full;
}
