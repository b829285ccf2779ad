use Rattle.std.proofs.Common.{sym, subst}
use Rattle.type_terms.proofs.Grown.{grew-none, grew-on}
use Rattle.type_terms.specs.Kept.{args-held-later}
use Rattle.infer_table.proofs.Numbers.{goal-held-later}
use Rattle.goal_evaluator.proofs.Turns.{every-at}
use Rattle.explain_traces.specs.Walking.{GoalsHeld}
use Rattle.explain_traces.proofs.Opened.{NestedGoalHeld}
use Rattle.explain_traces.proofs.Walks.{goals-later, goals-push}
use Rattle.explain_traces.proofs.opening.fill_goals.Goals as goal

pub loop-nested-init : goal.loop-nested-init
loop-nested-init c = record { grew = grew-none; held = subst (GoalsHeld c.args.cx.now.entries) (sym c.new-filled.ensures.items) tt }

pub instantiate_with_values-requires-clause-goal : goal.instantiate_with_values-requires-clause-goal
instantiate_with_values-requires-clause-goal c =
    let es = c.args.cx.now.entries in
    let n = c.nested-item.result in
    let had : NestedGoalHeld es n = subst (NestedGoalHeld es) (sym c.nested-item.is) (every-at (NestedGoalHeld es) c.args.goals.now c.loop-nested.nested-index n c.requires.goals c.loop-nested-test.true) in
    goal-held-later es c.loop-nested.cx.entries c.loop-nested.invariant.grew.keeps n.1 had

pub instantiate_with_values-requires-clause-values : goal.instantiate_with_values-requires-clause-values
instantiate_with_values-requires-clause-values c = args-held-later c.args.cx.now.entries c.loop-nested.cx.entries c.loop-nested.invariant.grew.keeps c.args.values.now c.requires.values

pub loop-nested-preserved : goal.loop-nested-preserved
loop-nested-preserved c =
    let now = c.loop-nested.cx.entries in
    let next = c.instantiate_with_values.new.cx.entries in
    let inv = c.loop-nested.invariant in
    let grew = c.instantiate_with_values.ensures.terms.grew in
    let before = c.loop-nested.filled.items in
    record {
      grew = grew-on inv.grew grew;
      held = subst (GoalsHeld next) (sym c.in_ok-push.ensures.items) (goals-push next before c.in_ok-goal.goal (goals-later now next grew.keeps before inv.held) c.in_ok-goal.ensures.held);
    }
