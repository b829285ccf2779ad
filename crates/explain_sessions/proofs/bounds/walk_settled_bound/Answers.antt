use Rattle.std.proofs.Common.{sym, subst}
use Rattle.explain_traces.specs.Walking.{ReferencesHeld}
use Rattle.explain_sessions.proofs.BoundGoals.{goal-there}
use Rattle.explain_sessions.proofs.Rests.{rests-none}
use Rattle.explain_sessions.proofs.bounds.walk_settled_bound.Goals as goal

pub walk_settled-requires-clause-rest : goal.walk_settled-requires-clause-rest
walk_settled-requires-clause-rest c = c.requires.rest

pub walk_settled-requires-clause-table : goal.walk_settled-requires-clause-table
walk_settled-requires-clause-table c = c.requires.table

pub walk_settled-requires-clause-goal : goal.walk_settled-requires-clause-goal
walk_settled-requires-clause-goal c =
    goal-there c.args.search.now.cx.interner.entries c.args.goals.now.obligations.items c.obligations.result.now c.obligations.ensures c.args.number c.in-Some.obligation.now c.requires.goals
    c.in-Some.ensures.lookup.3.0 (c.in-Some.ensures.lookup.3.1 c.in-Some.obligation.now)

pub returns-in-Some-clause-rests : goal.returns-in-Some-clause-rests
returns-in-Some-clause-rests c = c.walk_settled.ensures.rests

pub returns-in-Some-clause-table : goal.returns-in-Some-clause-table
returns-in-Some-clause-table c = c.walk_settled.ensures.table

pub returns-in-Some-clause-held : goal.returns-in-Some-clause-held
returns-in-Some-clause-held c = c.walk_settled.ensures.held

pub returns-in-None-clause-rests : goal.returns-in-None-clause-rests
returns-in-None-clause-rests c = rests-none c.args.search.now.graph.root_depth c.args.search.now.cx c.args.search.now.graph c.args.search.now.cache c.requires.rest

pub returns-in-None-clause-table : goal.returns-in-None-clause-table
returns-in-None-clause-table c = c.requires.table

pub returns-in-None-clause-held : goal.returns-in-None-clause-held
returns-in-None-clause-held c = subst (ReferencesHeld c.args.search.now.cx.interner.entries) (sym c.new.ensures.references) tt
