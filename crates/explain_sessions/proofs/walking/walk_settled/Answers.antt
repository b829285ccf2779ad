use Rattle.explain_sessions.proofs.Rests.{rests-asked, rests-further, rests-here, askable-at-rest}
use Rattle.sessions.proofs.InferTable.Numbers.{goal-held-later}
use Rattle.explain_sessions.proofs.walking.walk_settled.Goals as goal

pub returns-in_err-settle-clause-rests : goal.returns-in_err-settle-clause-rests
returns-in_err-settle-clause-rests c = rests-asked c.args.search.now.graph.root_depth c.args.search.now.cx c.settle.new.search.cx c.args.search.now.graph c.settle.new.search.graph c.args.search.now.cache c.settle.new.search.cache c.requires.rest c.settle.ensures.again c.settle.ensures.asked

pub walk_alone-requires-clause-rest : goal.walk_alone-requires-clause-rest
walk_alone-requires-clause-rest c = rests-here c.args.search.now.graph.root_depth c.settle.new.search.cx c.settle.new.search.graph c.settle.new.search.cache (rests-asked c.args.search.now.graph.root_depth c.args.search.now.cx c.settle.new.search.cx c.args.search.now.graph c.settle.new.search.graph c.args.search.now.cache c.settle.new.search.cache c.requires.rest c.settle.ensures.again c.settle.ensures.asked).rest

pub walk_alone-requires-clause-goal : goal.walk_alone-requires-clause-goal
walk_alone-requires-clause-goal c = goal-held-later c.args.search.now.cx.interner.entries c.settle.new.search.cx.interner.entries c.settle.ensures.asked.entries c.args.goal.now c.requires.goal

pub returns-clause-rests : goal.returns-clause-rests
returns-clause-rests c = rests-further c.args.search.now.graph.root_depth c.args.search.now.cx c.settle.new.search.cx c.walk_alone.new.search.cx c.settle.new.search.graph c.walk_alone.new.search.graph c.settle.new.search.cache c.walk_alone.new.search.cache (rests-asked c.args.search.now.graph.root_depth c.args.search.now.cx c.settle.new.search.cx c.args.search.now.graph c.settle.new.search.graph c.args.search.now.cache c.settle.new.search.cache c.requires.rest c.settle.ensures.again c.settle.ensures.asked) (c.walk_alone.ensures.rests)

pub settle-requires-clause-askable : goal.settle-requires-clause-askable
settle-requires-clause-askable c = askable-at-rest c.args.search.now.graph.root_depth c.args.search.now.cx c.args.search.now.graph c.args.search.now.cache c.requires.rest

pub settle-requires-clause-table : goal.settle-requires-clause-table
settle-requires-clause-table c = c.requires.table

pub settle-requires-clause-goal : goal.settle-requires-clause-goal
settle-requires-clause-goal c = c.requires.goal

pub returns-in_err-settle-clause-table : goal.returns-in_err-settle-clause-table
returns-in_err-settle-clause-table c = c.settle.ensures.table

pub walk_alone-requires-clause-table : goal.walk_alone-requires-clause-table
walk_alone-requires-clause-table c = c.settle.ensures.table

pub returns-clause-table : goal.returns-clause-table
returns-clause-table c = c.walk_alone.ensures.table

pub returns-clause-held : goal.returns-clause-held
returns-clause-held c = c.walk_alone.ensures.held
