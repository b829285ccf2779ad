use Rattle.explain_traces.specs.Walking.{ReferencesHeld}
use Rattle.std.proofs.Common.{sym, subst}
use Rattle.explain_sessions.proofs.Rests.{rests-asked, askable-at-rest}
use Rattle.explain_sessions.proofs.walking.walk_alone.Goals as goal

pub returns-in_err-_root-clause-rests : goal.returns-in_err-_root-clause-rests
returns-in_err-_root-clause-rests c =
    rests-asked c.args.search.now.graph.root_depth c.args.search.now.cx c.walk_goal.new.search.cx c.args.search.now.graph c.walk_goal.new.search.graph c.args.search.now.cache c.walk_goal.new.search.cache c.requires.rest c.walk_goal.ensures.again.askable
    c.walk_goal.ensures.walked.asked

pub returns-clause-rests : goal.returns-clause-rests
returns-clause-rests c =
    rests-asked c.args.search.now.graph.root_depth c.args.search.now.cx c.walk_goal.new.search.cx c.args.search.now.graph c.walk_goal.new.search.graph c.args.search.now.cache c.walk_goal.new.search.cache c.requires.rest c.walk_goal.ensures.again.askable
    c.walk_goal.ensures.walked.asked

pub walk_goal-requires-clause-walkable : goal.walk_goal-requires-clause-walkable
walk_goal-requires-clause-walkable c = record {
  askable = askable-at-rest c.args.search.now.graph.root_depth c.args.search.now.cx c.args.search.now.graph c.args.search.now.cache c.requires.rest;
  table = c.requires.table;
  references = subst (ReferencesHeld c.args.search.now.cx.interner.entries) (sym c.new-walk.ensures.references) tt;
}

pub walk_goal-requires-clause-goal : goal.walk_goal-requires-clause-goal
walk_goal-requires-clause-goal c = c.requires.goal

pub returns-in_err-_root-clause-table : goal.returns-in_err-_root-clause-table
returns-in_err-_root-clause-table c = c.walk_goal.ensures.again.table

pub returns-clause-table : goal.returns-clause-table
returns-clause-table c = c.walk_goal.ensures.again.table

pub returns-clause-held : goal.returns-clause-held
returns-clause-held c = c.walk_goal.ensures.again.references
