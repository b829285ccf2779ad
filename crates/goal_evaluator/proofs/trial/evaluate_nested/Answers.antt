use Rattle.std.proofs.Common.{◌≡◌, List, [], ◌++◌, map, ap, sym, ◌∙◌, subst, Option}
use Rattle.type_terms.specs.Promised.Handles.{Keeps}
use Rattle.type_terms.specs.Promised.Handles.{ArgsHeld}
use Rattle.infer_table.specs.Unification.{table_trees}
use Rattle.infer_table.specs.Content.{Table, Ready}
use Rattle.infer_table.proofs.PairFacts.{table-kept}
use Rattle.infer_table.specs.Values.{values_of, values-later}
use Rattle.infer_table.specs.declared.response.CanonicalResponse.{CanonicalResponse}
use Rattle.goal_evaluator.specs.Lists.{Every}
use Rattle.goal_evaluator.specs.Readings.{ResultHeld}
use Rattle.goal_evaluator.specs.Context.{Context, NestedGoal}
use Rattle.goal_evaluator.specs.Evaluating.{goals_trees, replies_trees}
use Rattle.goal_evaluator.proofs.Contexts.{replies-later}
use Rattle.goal_evaluator.proofs.LaterTrees.{replies-trees-later}
use Rattle.goal_evaluator.specs.Frames.{nested_filled}
use Rattle.goal_evaluator.specs.Trial.{premises_trees}
use Rattle.goal_evaluator.specs.TrialEnds.{trial_trees}
use Rattle.goal_evaluator.proofs.TrialContexts.{ready-begun, ready-heard}
use Rattle.goal_evaluator.proofs.Ending.{nested-ends}
use Rattle.type_terms.proofs.Grown.{grew-on}
use Rattle.goal_evaluator.proofs.Shortages.{eval-at-limit}
use Rattle.goal_evaluator.proofs.trial.evaluate_nested.Goals as goal

pub add_goals-requires-clause-ready : goal.add_goals-requires-clause-ready
add_goals-requires-clause-ready c =
    let es = c.args.cx.now.entries in
    let made = c.new-context.ensures in
    ready-begun es c.new-context.result (ap (λ (z : Context). z.nested) made) (ap (λ (z : Context). z.replies) made) (subst (Ready es) (sym (ap (λ (z : Context). z.table) made)) c.requires.ready)
    (subst (ArgsHeld es) (sym (ap (λ (z : Context). z.values) made)) c.requires.own)

pub add_goals-requires-clause-values : goal.add_goals-requires-clause-values
add_goals-requires-clause-values c = rw c.deref-2.ensures.value c.requires.values

pub add_goals-requires-clause-goals : goal.add_goals-requires-clause-goals
add_goals-requires-clause-goals c = rw c.deref-3.ensures.value c.requires.goals

pub evaluate_added_goals_and_make_canonical_response-requires : goal.evaluate_added_goals_and_make_canonical_response-requires
evaluate_added_goals_and_make_canonical_response-requires c =
    let es = c.args.cx.now.entries in
    let es1 = c.add_goals.new.cx.entries in
    let begun = c.new-context in
    let goals = c.add_goals.new.context in
    let mid = c.add_replies.new.context in
    let none : goals.replies ≡ [] = ap (λ (z : Context). z.replies) c.in_ok-add_goals.ensures.rest ∙ ap (λ (z : Context). z.replies) begun.ensures in
    let replies = c.in_ok-add_replies.ensures.held es1 (subst (Every (ResultHeld es1)) (sym none) tt) (replies-later es es1 c.add_goals.ensures.terms.grew.keeps c.args.replies.now c.requires.replies) in
    record { ready = ready-heard es1 goals mid c.in_ok-add_replies.ensures.rest c.in_ok-add_goals.ensures.ready replies }

pub returns-clause-terms : goal.returns-clause-terms
returns-clause-terms c = record {
  grew = grew-on c.add_goals.ensures.terms.grew c.evaluate_added_goals_and_make_canonical_response.ensures.terms.grew;
  full = c.evaluate_added_goals_and_make_canonical_response.ensures.terms.full;
}

pub returns-clause-runs : goal.returns-clause-runs
returns-clause-runs c =
    let es = c.args.cx.now.entries in
    let es1 = c.add_goals.new.cx.entries in
    let call = c.evaluate_added_goals_and_make_canonical_response in
    let es2 = call.new.cx.entries in
    let k : Keeps es es1 = c.add_goals.ensures.terms.grew.keeps in
    let l : Keeps es es2 = λ i x h. call.ensures.terms.grew.keeps i x (k i x h) in
    let trial = c.args.trial in
    let variables = c.args.input.now.variables.items in
    let ns = c.args.spec.now.nested_goals.items in
    let rs = c.args.replies.now in
    let begun = c.new-context.result in
    let goals = c.add_goals.new.context in
    let mid = c.add_replies.new.context in
    let made = c.new-context.ensures in
    let filled = c.in_ok-add_goals.ensures.rest in
    let heard = c.in_ok-add_replies.ensures.rest in
    let t = trial_trees es variables trial in
    let kinds : mid.variables ≡ variables =
    ap (λ (z : Context). z.variables) heard ∙ ap (λ (z : Context). z.variables) filled ∙ ap (λ (z : Context). z.variables) made ∙ c.in_ok-variables.ensures.items ∙ c.deref.ensures.value in
    let values : mid.values ≡ trial.own.items = ap (λ (z : Context). z.values) heard ∙ ap (λ (z : Context). z.values) filled ∙ ap (λ (z : Context). z.values) made in
    let mode : mid.mode ≡ c.args.input.now.mode = ap (λ (z : Context). z.mode) heard ∙ ap (λ (z : Context). z.mode) filled ∙ ap (λ (z : Context). z.mode) made in
    let table : mid.table ≡ trial.table = ap (λ (z : Context). z.table) heard ∙ ap (λ (z : Context). z.table) filled ∙ ap (λ (z : Context). z.table) made in
    let no-goals : begun.nested ≡ [] = ap (λ (z : Context). z.nested) made in
    let no-replies : goals.replies ≡ [] = ap (λ (z : Context). z.replies) filled ∙ ap (λ (z : Context). z.replies) made in
    nested-ends es1 es2 mid call.new.self t c.args.spec.now.certainty kinds (ap (values_of es2) values ∙ values-later es es2 l trial.own.items c.requires.own)
    c.args.input.now.mode (premises_trees es ns) (replies_trees es rs) call.result mode
    (ap (λ (z : Context). goals_trees es1 z.nested) heard ∙ c.in_ok-add_goals.ensures.added
    ∙ ap (λ (z : List NestedGoal). goals_trees es z ++ map (nested_filled (values_of es c.deref-2.result.now)) (premises_trees es c.deref-3.result.now)) no-goals
    ∙ ap (λ z. map (nested_filled (values_of es z)) (premises_trees es c.deref-3.result.now)) c.deref-2.ensures.value
    ∙ ap (λ z. map (nested_filled (values_of es trial.values.items)) (premises_trees es z)) c.deref-3.ensures.value)
    (ap (λ (z : Table). table_trees es1 z) table ∙ table-kept es es1 k trial.table c.requires.ready)
    (c.in_ok-add_replies.ensures.added es1 ∙ ap (λ (z : List (Option CanonicalResponse)). replies_trees es1 z ++ replies_trees es1 rs) no-replies ∙ replies-trees-later es es1 k rs c.requires.replies)
    call.ensures.runs

pub returns-in_err-add_goals-clause-terms : goal.returns-in_err-add_goals-clause-terms
returns-in_err-add_goals-clause-terms c = record {
  grew = c.add_goals.ensures.terms.grew;
  full = eval-at-limit c.from_residual-in_err-add_goals.result c.from_residual-in_err-add_goals.ensures.1 c.in_err-add_goals.ensures.terms.full;
}
