use Rattle.explain_sessions.proofs.Rests.{rests-further, rests-here}
use Rattle.explain_sessions.proofs.bounds.walk_bounds.Goals as goal

pub returns-in_err-number-clause-rests : goal.returns-in_err-number-clause-rests
returns-in_err-number-clause-rests c = c.select.ensures.rests

pub walk_bound-requires-clause-rest : goal.walk_bound-requires-clause-rest
walk_bound-requires-clause-rest c = rests-here c.args.search.now.graph.root_depth c.select.new.search.cx c.select.new.search.graph c.select.new.search.cache c.select.ensures.rests.rest

pub walk_bound-requires-clause-table : goal.walk_bound-requires-clause-table
walk_bound-requires-clause-table c = c.select.ensures.table

pub walk_bound-requires-clause-goals : goal.walk_bound-requires-clause-goals
walk_bound-requires-clause-goals c = c.select.ensures.goals

pub returns-clause-rests : goal.returns-clause-rests
returns-clause-rests c =
    rests-further c.args.search.now.graph.root_depth c.args.search.now.cx c.select.new.search.cx c.walk_bound.new.search.cx c.select.new.search.graph c.walk_bound.new.search.graph
    c.select.new.search.cache c.walk_bound.new.search.cache c.select.ensures.rests c.walk_bound.ensures.rests

pub returns-clause-held : goal.returns-clause-held
returns-clause-held c = c.walk_bound.ensures.held
