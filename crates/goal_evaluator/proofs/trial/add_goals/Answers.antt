use Rattle.std.proofs.Common.{◌≡◌, [], ◌∷◌, ◌++◌, drop, ap, sym, ◌∙◌, subst, refl, List}
use Rattle.std.proofs.lemmas.List.{map-append}
use Rattle.type_terms.specs.Promised.Handles.{Entry}
use Rattle.type_terms.specs.Kept.{args-held-later}
use Rattle.infer_table.specs.Goals.{GoalHeld}
use Rattle.infer_table.specs.declared.goal.Goal.{Goal}
use Rattle.infer_table.proofs.Numbers.{goal-held-later}
use Rattle.infer_table.specs.Values.{values_of}
use Rattle.infer_table.proofs.Values.{past-end}
use Rattle.goal_evaluator.specs.declared.goal.GoalSource.{GoalSource}
use Rattle.goal_evaluator.specs.Context.{Context, nested_goal}
use Rattle.goal_evaluator.specs.Evaluating.{nested_trees, goals_trees}
use Rattle.goal_evaluator.proofs.Contexts.{context-later, ready-added}
use Rattle.goal_evaluator.proofs.LaterTrees.{goals-trees-later}
use Rattle.goal_evaluator.proofs.Handed.{rest-nested}
use Rattle.goal_evaluator.proofs.Turns.{every-at, put-in, one-more-goal, all-goals}
use Rattle.goal_evaluator.proofs.trial.add_goals.Goals as goal

abbrev IsHeld : List Entry → GoalSource × Goal → Type 0
IsHeld es n = GoalHeld es n.1

pub instantiate_with_values-requires-clause-goal : goal.instantiate_with_values-requires-clause-goal
instantiate_with_values-requires-clause-goal c =
    let es = c.args.cx.now.entries in
    let n = c.nested-item.result in
    let had : IsHeld es n = subst (IsHeld es) (sym c.nested-item.is) (every-at (IsHeld es) c.args.goals.now c.loop-nested.nested-index n c.requires.goals c.loop-nested-test.true) in
    goal-held-later es c.loop-nested.cx.entries c.loop-nested.invariant.keeps n.1 had

pub instantiate_with_values-requires-clause-values : goal.instantiate_with_values-requires-clause-values
instantiate_with_values-requires-clause-values c = args-held-later c.args.cx.now.entries c.loop-nested.cx.entries c.loop-nested.invariant.keeps c.args.values.now c.requires.values

pub loop-nested-preserved : goal.loop-nested-preserved
loop-nested-preserved c =
    let es = c.args.cx.now.entries in
    let now = c.loop-nested.cx.entries in
    let next = c.instantiate_with_values.new.cx.entries in
    let inv = c.loop-nested.invariant in
    let k = c.instantiate_with_values.ensures.terms.grew.keeps in
    let xs = c.args.goals.now in
    let i = c.loop-nested.nested-index in
    let n = c.nested-item.result in
    let g = c.in_ok-goal.goal in
    let m = nested_goal (n.0, g) in
    let vs = c.args.values.now in
    let context = c.loop-nested.context in
    let after = c.add_goal.new.self in
    let added : after ≡ record context { nested = context.nested ++ m ∷ [] } = c.in_ok-add_goal.ensures.added in
    let had : IsHeld es n = subst (IsHeld es) (sym c.nested-item.is) (every-at (IsHeld es) xs i n c.requires.goals c.loop-nested-test.true) in
    let more : goals_trees next after.nested ≡ goals_trees now context.nested ++ nested_trees next m ∷ [] =
    ap (λ (z : Context). goals_trees next z.nested) added ∙ map-append (nested_trees next) context.nested (m ∷ [])
    ∙ ap (λ z. z ++ nested_trees next m ∷ []) (goals-trees-later now next k context.nested inv.ready.nested) in
    let put = put-in es now next inv.keeps (values_of es vs) vs c.requires.values refl n.0 n.1 g had c.in_ok-goal.ensures.filled in
    record {
      keeps = λ j e h. k j e (inv.keeps j e h);
      limit = c.instantiate_with_values.ensures.terms.grew.limit ∙ inv.limit;
      ready = ready-added next context after m added (context-later now next k context inv.ready) (record { clauses = c.in_ok-goal.ensures.held.environment; predicate = c.in_ok-goal.ensures.held.predicate });
      rest = rest-nested c.args.context.now context after (context.nested ++ m ∷ []) inv.rest added;
      left = one-more-goal es (values_of es vs) (goals_trees now context.nested) (goals_trees next after.nested) _ (nested_trees next m) xs i n c.loop-nested-test.true c.nested-item.is more put inv.left;
    }

pub returns-clause-added : goal.returns-clause-added
returns-clause-added c =
    let es = c.args.cx.now.entries in
    let xs = c.args.goals.now in
    let i = c.loop-nested.nested-index in
    all-goals es (values_of es c.args.values.now) _ _ (drop i xs) (past-end xs i c.loop-nested-test.false) c.loop-nested.invariant.left
