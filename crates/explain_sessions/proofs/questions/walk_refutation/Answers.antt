use Rattle.sessions.proofs.SeveralAsked.{all-held}
use Rattle.explain_sessions.proofs.Rests.{advanced-further, rests-advanced, rests-further}
use Rattle.explain_sessions.proofs.questions.walk_refutation.Goals as goal

pub lower_in-requires-clause-ready : goal.lower_in-requires-clause-ready
lower_in-requires-clause-ready c = c.requires.rest.ready

pub lower_in-requires-clause-question : goal.lower_in-requires-clause-question
lower_in-requires-clause-question c = c.requires.question

pub returns-in_err-lowered-clause-rests : goal.returns-in_err-lowered-clause-rests
returns-in_err-lowered-clause-rests c = rests-advanced c.args.search.now.graph.root_depth c.args.search.now.cx c.lower_in.new.cx c.args.search.now.graph c.args.search.now.cache c.requires.rest c.lower_in.ensures.advances

pub pose-requires-clause-ready : goal.pose-requires-clause-ready
pose-requires-clause-ready c = c.lower_in.ensures.advances.ready

pub pose-requires-clause-clauses : goal.pose-requires-clause-clauses
pose-requires-clause-clauses c = tt

pub pose-requires-clause-bounds : goal.pose-requires-clause-bounds
pose-requires-clause-bounds c =
    all-held c.lower_in.new.cx.interner.entries c.requires.question.0 c.in_ok-lowered.lowered (c.in_ok-lowered.ensures.lowered c.requires.question.0 c.requires.question.1)

pub returns-in_err-goals-clause-rests : goal.returns-in_err-goals-clause-rests
returns-in_err-goals-clause-rests c = rests-advanced c.args.search.now.graph.root_depth c.args.search.now.cx c.pose.new.cx c.args.search.now.graph c.args.search.now.cache c.requires.rest (advanced-further c.args.search.now.cx c.lower_in.new.cx c.pose.new.cx c.lower_in.ensures.advances c.pose.ensures.advances)

pub walk_bounds-requires-clause-rest : goal.walk_bounds-requires-clause-rest
walk_bounds-requires-clause-rest c = (rests-advanced c.args.search.now.graph.root_depth c.args.search.now.cx c.pose.new.cx c.args.search.now.graph c.args.search.now.cache c.requires.rest (advanced-further c.args.search.now.cx c.lower_in.new.cx c.pose.new.cx c.lower_in.ensures.advances c.pose.ensures.advances)).rest

pub walk_bounds-requires-clause-table : goal.walk_bounds-requires-clause-table
walk_bounds-requires-clause-table c = c.in_ok-goals.ensures.table

pub walk_bounds-requires-clause-goals : goal.walk_bounds-requires-clause-goals
walk_bounds-requires-clause-goals c = c.in_ok-goals.ensures.goals

pub returns-clause-rests : goal.returns-clause-rests
returns-clause-rests c =
    rests-further c.args.search.now.graph.root_depth c.args.search.now.cx c.pose.new.cx c.walk_bounds.new.search.cx c.args.search.now.graph c.walk_bounds.new.search.graph c.args.search.now.cache c.walk_bounds.new.search.cache
    (rests-advanced c.args.search.now.graph.root_depth c.args.search.now.cx c.pose.new.cx c.args.search.now.graph c.args.search.now.cache c.requires.rest (advanced-further c.args.search.now.cx c.lower_in.new.cx c.pose.new.cx c.lower_in.ensures.advances c.pose.ensures.advances)) c.walk_bounds.ensures.rests

pub returns-clause-held : goal.returns-clause-held
returns-clause-held c = c.walk_bounds.ensures.held
