use Rattle.std.proofs.Common.{◌≡◌, [], ◌∷◌, ◌++◌, map, drop, ap, sym, ◌∙◌, subst, refl, List}
use Rattle.std.proofs.lemmas.List.{map-append}
use Rattle.type_terms.specs.Promised.Handles.{Entry}
use Rattle.type_terms.specs.Kept.{args-held-later}
use Rattle.infer_table.specs.Goals.{GoalHeld}
use Rattle.infer_table.specs.declared.goal.Goal.{Goal}
use Rattle.infer_table.proofs.Numbers.{goal-held-later}
use Rattle.infer_table.specs.Values.{values_of}
use Rattle.infer_table.proofs.Values.{past-end}
use Rattle.goal_evaluator.specs.declared.goal.GoalSource.{GoalSource}
use Rattle.goal_evaluator.specs.Context.{NestedHeld, GoalIsHeld, nested_goal}
use Rattle.goal_evaluator.specs.Evaluating.{nested_trees, goals_trees}
use Rattle.goal_evaluator.specs.Frames.{nested_filled}
use Rattle.goal_evaluator.specs.Trial.{premises_trees}
use Rattle.goal_evaluator.proofs.Contexts.{nested-later, every-more}
use Rattle.goal_evaluator.proofs.LaterTrees.{goals-trees-later}
use Rattle.goal_evaluator.proofs.Turns.{every-at, put-in, one-more-goal, all-goals}
use Rattle.goal_evaluator.proofs.trial.fill_goals.Goals as goal

abbrev IsHeld : List Entry → GoalSource × Goal → Type 0
IsHeld es n = GoalHeld es n.1

pub loop-premise-init : goal.loop-premise-init
loop-premise-init c =
    let es = c.args.cx.now.entries in
    let none-yet = c.new-filled.ensures.items in
    record {
      keeps = λ i x h. h;
      limit = refl;
      held = subst (λ gs. NestedHeld es (map nested_goal gs)) (sym none-yet) tt;
      left = ap (λ gs. premises_trees es gs ++ map (nested_filled (values_of es c.args.values.now)) (premises_trees es c.args.goals.now)) none-yet;
    }

pub fill_goal-requires-clause-goal : goal.fill_goal-requires-clause-goal
fill_goal-requires-clause-goal c =
    let es = c.args.cx.now.entries in
    let n = c.premise-item.result in
    let had : IsHeld es n = subst (IsHeld es) (sym c.premise-item.is) (every-at (IsHeld es) c.args.goals.now c.loop-premise.premise-index n c.requires.goals c.loop-premise-test.true) in
    goal-held-later es c.loop-premise.cx.entries c.loop-premise.invariant.keeps n.1 had

pub fill_goal-requires-clause-values : goal.fill_goal-requires-clause-values
fill_goal-requires-clause-values c = args-held-later c.args.cx.now.entries c.loop-premise.cx.entries c.loop-premise.invariant.keeps c.args.values.now c.requires.values

pub loop-premise-preserved : goal.loop-premise-preserved
loop-premise-preserved c =
    let es = c.args.cx.now.entries in
    let now = c.loop-premise.cx.entries in
    let next = c.fill_goal.new.cx.entries in
    let inv = c.loop-premise.invariant in
    let k = c.fill_goal.ensures.terms.grew.keeps in
    let xs = c.args.goals.now in
    let i = c.loop-premise.premise-index in
    let n = c.premise-item.result in
    let g = c.in_ok-goal.goal in
    let pair : GoalSource × Goal = (n.0, g) in
    let m = nested_goal pair in
    let vs = c.args.values.now in
    let before = c.loop-premise.filled.items in
    let after = c.push_back.new.self.items in
    let added : after ≡ before ++ pair ∷ [] = c.in_ok-push_back.ensures.items in
    let had : IsHeld es n = subst (IsHeld es) (sym c.premise-item.is) (every-at (IsHeld es) xs i n c.requires.goals c.loop-premise-test.true) in
    let goals : map nested_goal after ≡ map nested_goal before ++ m ∷ [] = ap (map nested_goal) added ∙ map-append nested_goal before (pair ∷ []) in
    let more : premises_trees next after ≡ premises_trees now before ++ nested_trees next m ∷ [] =
    ap (goals_trees next) goals ∙ map-append (nested_trees next) (map nested_goal before) (m ∷ [])
    ∙ ap (λ z. z ++ nested_trees next m ∷ []) (goals-trees-later now next k (map nested_goal before) inv.held) in
    let put = put-in es now next inv.keeps (values_of es vs) vs c.requires.values refl n.0 n.1 g had c.in_ok-goal.ensures.filled in
    let one : GoalIsHeld next m = record { clauses = c.in_ok-goal.ensures.held.environment; predicate = c.in_ok-goal.ensures.held.predicate } in
    record {
      keeps = λ j e h. k j e (inv.keeps j e h);
      limit = c.fill_goal.ensures.terms.grew.limit ∙ inv.limit;
      held = subst (NestedHeld next) (sym goals) (every-more (GoalIsHeld next) (map nested_goal before) m (nested-later now next k (map nested_goal before) inv.held) one);
      left = one-more-goal es (values_of es vs) (premises_trees now before) (premises_trees next after) _ (nested_trees next m) xs i n c.loop-premise-test.true c.premise-item.is more put inv.left;
    }

pub returns-clause-filled : goal.returns-clause-filled
returns-clause-filled c =
    let es = c.args.cx.now.entries in
    let xs = c.args.goals.now in
    let i = c.loop-premise.premise-index in
    all-goals es (values_of es c.args.values.now) _ _ (drop i xs) (past-end xs i c.loop-premise-test.false) c.loop-premise.invariant.left
