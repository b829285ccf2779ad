use Rattle.std.proofs.Common.{◌+◌, ◌*◌}
use Rattle.explain_traces.specs.Frames.{IsWalked}
use Rattle.explain_traces.specs.Walking.{IsWalkable, HasWalked}
use Rattle.explain_traces.proofs.walking.+walk.Given as goal

abbrev pub decreases-walk_goal : goal.decreases-walk_goal
decreases-walk_goal g l = 5 * l.traced.depth

abbrev pub decreases-walk_premises : goal.decreases-walk_premises
decreases-walk_premises g l = 5 * l.traced.depth + 1

abbrev pub decreases-walk_telling : goal.decreases-walk_telling
decreases-walk_telling g l = 5 * l.candidate.goal.depth + 2

abbrev pub decreases-visit_candidate : goal.decreases-visit_candidate
decreases-visit_candidate g l = 5 * l.visit.goal.depth + 3

abbrev pub decreases-walk_candidates : goal.decreases-walk_candidates
decreases-walk_candidates g l = 5 * l.opened.depth + 4

abbrev pub invariant-walk_premises-loop-goal : goal.invariant-walk_premises-loop-goal
invariant-walk_premises-loop-goal g l = record {
  again : IsWalkable g.H.GoalHandler.meaning l.search.graph l.search.cache l.search.cx l.table l.walk.references.items;
  walked : HasWalked g.H.GoalHandler.meaning l.fn.search.graph l.fn.search.cx l.fn.table l.search.graph l.search.cx l.table;
}

abbrev pub invariant-walk_candidates-loop-candidate : goal.invariant-walk_candidates-loop-candidate
invariant-walk_candidates-loop-candidate g l = record {
  again : IsWalkable g.H.GoalHandler.meaning l.search.graph l.search.cache l.search.cx l.table l.walk.references.items;
  walked : HasWalked g.H.GoalHandler.meaning l.fn.search.graph l.fn.search.cx l.fn.table l.search.graph l.search.cx l.table;
  frame : IsWalked g.H.GoalHandler.meaning l.search.cx l.frame;
}
