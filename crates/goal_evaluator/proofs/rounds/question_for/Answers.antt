use Rattle.infer_table.specs.Content.{content}
use Rattle.infer_table.specs.Goals.{goal_resolved}
use Rattle.goal_evaluator.specs.Context.{nested_goal}
use Rattle.goal_evaluator.specs.Evaluating.{nested_trees}
use Rattle.goal_evaluator.proofs.Asking.{values-are}
use Rattle.goal_evaluator.proofs.rounds.question_for.Goals as goal

pub returns-clause-values : goal.returns-clause-values
returns-clause-values c =
    values-are c.canonicalize_goal.new.cx.entries c.lawful.ensures c.in_ok-asked.asked.values.items
    (goal_resolved (content c.args.cx.now.entries c.args.table.now.values) (nested_trees c.args.cx.now.entries (nested_goal c.args.nested.now)).goal)
    c.in_ok-asked.ensures.held c.in_ok-asked.ensures.values
