use Rattle.std.proofs.Common.{◌≡◌, rules, subst, map, ◌∙◌, Ok}
use Rattle.infer_table.proofs.PairFacts.{table-kept}
use Rattle.type_terms.proofs.Grown.{grew-on}
use Rattle.goal_evaluator.specs.Context.{NestedHeld, nested_goal}
use Rattle.infer_table.specs.Unification.{table_trees}
use Rattle.goal_evaluator.specs.Replays.{run}
use Rattle.goal_evaluator.specs.Rounds.{rounds}
use Rattle.goal_evaluator.specs.declared.TheConstants.{FIXPOINT_STEP_LIMIT}
use Rattle.goal_evaluator.specs.Evaluating.{evaluation, goals_trees, replies_trees}
use Rattle.infer_table.specs.Values.{values_of, values-later}
use Rattle.infer_table.specs.Responses.{answer_trees}
use Rattle.goal_evaluator.specs.OwnAnswers.{OwnAnswerSays, answer_of}
use Rattle.goal_evaluator.specs.Steps.{RoundsEnd, RoundsHeld, LeavesContext}
use Rattle.goal_evaluator.proofs.Contexts.{context-later, nested-later, ready-same}
use Rattle.goal_evaluator.proofs.CallEnds.{ready-settled, call-answered}
use Rattle.goal_evaluator.proofs.LaterTrees.{goals-trees-later}
use Rattle.goal_evaluator.proofs.Shortages.{same-fault}
use Rattle.goal_evaluator.proofs.context.EvalCtxt.evaluate_added_goals_and_make_canonical_response.Goals as goal

pub returns-in-Ok-clause-ready : goal.returns-in-Ok-clause-ready
returns-in-Ok-clause-ready c =
    let es1 = c.evaluate_nested_goals.new.cx.entries in
    let es2 = c.answer.new.cx.entries in
    let mid = c.evaluate_nested_goals.new.self in
    let left = map nested_goal c.in-Ended.left.items in
    let held : NestedHeld es1 left = subst (RoundsHeld es1) c.in-Ended.is c.in_ok-evaluated.ensures.held in
    ready-settled es2 mid c.settle.new.self left c.settle.ensures (context-later es1 es2 c.answer.ensures.terms.grew.keeps mid c.evaluate_nested_goals.ensures.ready) (nested-later es1 es2 c.answer.ensures.terms.grew.keeps left held)

pub returns-in-Ok-clause-runs : goal.returns-in-Ok-clause-runs
returns-in-Ok-clause-runs c =
    let es = c.args.cx.now.entries in
    let es1 = c.evaluate_nested_goals.new.cx.entries in
    let es2 = c.answer.new.cx.entries in
    let old = c.args.self.now in
    let mid = c.evaluate_nested_goals.new.self in
    let left = map nested_goal c.in-Ended.left.items in
    let held : NestedHeld es1 left = subst (RoundsHeld es1) c.in-Ended.is c.in_ok-evaluated.ensures.held in
    let keeps = c.answer.ensures.terms.grew.keeps in
    let r = run (rounds (evaluation old.mode) FIXPOINT_STEP_LIMIT (goals_trees es old.nested) (table_trees es old.table)) (replies_trees es old.replies) in
    call-answered old.mode es2 old mid c.settle.new.self left (subst (λ v. LeavesContext old mid (Ok v)) c.in-Ended.is c.in_ok-evaluated.ensures.leaves) c.settle.ensures es1 keeps
    (table-kept es1 es2 keeps mid.table c.evaluate_nested_goals.ensures.ready.table) (goals-trees-later es1 es2 keeps left held)
    (values-later es1 es2 keeps mid.values c.evaluate_nested_goals.ensures.ready.values)
    c.args.certainty c.in-Ended.of_goals c.in-Ok.response r (c.in-Ok.ensures.certainty ∙ c.and.ensures)
    (subst (λ k. OwnAnswerSays es1 es2 mid c.in-Ok.response k) c.and.ensures c.in-Ok.ensures.says)
    (subst (λ k. answer_trees es2 c.in-Ok.response ≡ answer_of mid.variables (values_of es1 mid.values) (table_trees es1 mid.table) k) c.and.ensures c.in-Ok.ensures.is)
    (subst (λ v. RoundsEnd old.mode es1 mid.table r (Ok v)) c.in-Ended.is c.in_ok-evaluated.ensures.runs)

pub returns-in-Err-clause-ready : goal.returns-in-Err-clause-ready
returns-in-Err-clause-ready c =
    ready-same c.args.cx.now.entries c.answer.new.cx.entries c.args.self.now _ (λ i x h. c.answer.ensures.terms.grew.keeps i x (c.evaluate_nested_goals.ensures.terms.grew.keeps i x h)) (search rules) c.requires.ready

pub returns-in-Err-clause-terms : goal.returns-in-Err-clause-terms
returns-in-Err-clause-terms c = record {
  grew = grew-on c.evaluate_nested_goals.ensures.terms.grew c.answer.ensures.terms.grew;
  full = λ q. c.in-Err.ensures.terms.full (same-fault c.in-Err.fault q);
}
