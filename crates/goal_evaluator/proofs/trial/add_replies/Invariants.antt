use Rattle.std.proofs.Common.{◌≡◌, ◌++◌, List, drop}
use Rattle.type_terms.specs.Promised.Handles.{Entry}
use Rattle.goal_evaluator.specs.Lists.{Every}
use Rattle.goal_evaluator.specs.Readings.{ResultHeld}
use Rattle.goal_evaluator.specs.Evaluating.{replies_trees}
use Rattle.goal_evaluator.proofs.trial.add_replies.Given as goal

abbrev pub invariant-loop-reply : goal.invariant-loop-reply
invariant-loop-reply l = record {
  rest : l.context ≡ record l.fn.context { replies = l.context.replies; capacity = l.context.capacity };
  left : (es : List Entry) → replies_trees es l.context.replies ++ replies_trees es (drop l.reply-index l.replies) ≡ replies_trees es l.fn.context.replies ++ replies_trees es l.replies;
  held : (es : List Entry) → Every (ResultHeld es) l.fn.context.replies → Every (ResultHeld es) l.replies → Every (ResultHeld es) l.context.replies;
}
