use Rattle.infer_table.specs.contracts.response.CanonicalResponsePartialEq.TheImpl.{ghosts as response}
use Rattle.goal_evaluator.specs.Responses.{is_always_applicable, content}
use Rattle.goal_evaluator.proofs.MergeFacts.{takes-first, takes-common, takes-none}
use Rattle.goal_evaluator.proofs.merge.try_merge_candidates.Goals as goal

pub returns-in-Some-clause-response : goal.returns-in-Some-clause-response
returns-in-Some-clause-response c =
    takes-first (is_always_applicable c.args.cx.now.entries) content response.eq c.args.responses.now c.in-Some.place c.index-responses-place.result c.in_ok-response.response
    c.in-Some.ensures c.index-responses-place.is c.in_ok-response.ensures

pub returns-in_ok-response-in-len1-up-clause-response : goal.returns-in_ok-response-in-len1-up-clause-response
returns-in_ok-response-in-len1-up-clause-response c =
    takes-common (is_always_applicable c.args.cx.now.entries) content response.eq c.args.responses.now c.first-item.result c.in_ok-response-in-len1-up.response
    c.in_default.ensures c.in-len1-up.len_at_least c.first-item.is c.if-are_equal_to.ensures c.in_ok-response-in-len1-up.ensures

pub returns-else-are_equal_to-clause-response : goal.returns-else-are_equal_to-clause-response
returns-else-are_equal_to-clause-response c =
    takes-none (is_always_applicable c.args.cx.now.entries) content response.eq c.args.responses.now c.first-item.result
    c.in_default.ensures c.in-len1-up.len_at_least c.first-item.is c.if-are_equal_to.ensures
