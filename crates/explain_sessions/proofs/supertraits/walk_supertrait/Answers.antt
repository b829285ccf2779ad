use Rattle.std.proofs.Common.{subst}
use Rattle.sessions.specs.Declarations.Items.{written}
use Rattle.sessions.specs.Supertraits.{AreOfOwn}
use Rattle.explain_sessions.proofs.Rests.{rests-advanced, rests-further}
use Rattle.explain_sessions.proofs.supertraits.walk_supertrait.Goals as goal

pub own_goals_in-requires-clause-ready : goal.own_goals_in-requires-clause-ready
own_goals_in-requires-clause-ready c = c.requires.rest.ready

pub returns-in_err-goals-clause-rests : goal.returns-in_err-goals-clause-rests
returns-in_err-goals-clause-rests c = rests-advanced c.args.search.now.graph.root_depth c.args.search.now.cx c.own_goals_in.new.cx c.args.search.now.graph c.args.search.now.cache c.requires.rest c.own_goals_in.ensures.advances

pub returns-in_default-clause-rests : goal.returns-in_default-clause-rests
returns-in_default-clause-rests c = rests-advanced c.args.search.now.graph.root_depth c.args.search.now.cx c.own_goals_in.new.cx c.args.search.now.graph c.args.search.now.cache c.requires.rest c.own_goals_in.ensures.advances

pub walk_numbered-requires-clause-rest : goal.walk_numbered-requires-clause-rest
walk_numbered-requires-clause-rest c = (rests-advanced c.args.search.now.graph.root_depth c.args.search.now.cx c.own_goals_in.new.cx c.args.search.now.graph c.args.search.now.cache c.requires.rest c.own_goals_in.ensures.advances).rest

pub walk_numbered-requires-clause-supertraits : goal.walk_numbered-requires-clause-supertraits
walk_numbered-requires-clause-supertraits c =
    let V = written c.args.search.now.cx.interner.entries c.args.search.now.cx.handler.declarations in
    (subst (AreOfOwn V c.args.search.now.cx.handler.declarations.local c.args.id.index c.own_goals_in.new.cx.interner.entries) c.in-Some.is c.in_ok-goals.ensures.goals).asked.supertraits_held

pub walk_numbered-requires-clause-clauses : goal.walk_numbered-requires-clause-clauses
walk_numbered-requires-clause-clauses c =
    let V = written c.args.search.now.cx.interner.entries c.args.search.now.cx.handler.declarations in
    (subst (AreOfOwn V c.args.search.now.cx.handler.declarations.local c.args.id.index c.own_goals_in.new.cx.interner.entries) c.in-Some.is c.in_ok-goals.ensures.goals).asked.clauses_held

pub returns-clause-rests : goal.returns-clause-rests
returns-clause-rests c = rests-further c.args.search.now.graph.root_depth c.args.search.now.cx c.own_goals_in.new.cx c.walk_numbered.new.search.cx c.args.search.now.graph c.walk_numbered.new.search.graph c.args.search.now.cache c.walk_numbered.new.search.cache (rests-advanced c.args.search.now.graph.root_depth c.args.search.now.cx c.own_goals_in.new.cx c.args.search.now.graph c.args.search.now.cache c.requires.rest c.own_goals_in.ensures.advances) (c.walk_numbered.ensures.rests)

pub own_goals_in-requires-clause-applied : goal.own_goals_in-requires-clause-applied
own_goals_in-requires-clause-applied c = c.requires.applied

pub returns-clause-held : goal.returns-clause-held
returns-clause-held c = c.walk_numbered.ensures.held
