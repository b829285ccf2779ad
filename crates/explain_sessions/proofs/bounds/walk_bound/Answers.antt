use Rattle.std.proofs.Common.{sym, subst}
use Rattle.explain_traces.specs.Walking.{ReferencesHeld}
use Rattle.explain_sessions.proofs.BoundGoals.{goal-there}
use Rattle.explain_sessions.proofs.Rests.{rests-none}
use Rattle.explain_sessions.proofs.bounds.walk_bound.Goals as goal

pub returns-in_default-clause-rests : goal.returns-in_default-clause-rests
returns-in_default-clause-rests c = rests-none c.args.search.now.graph.root_depth c.args.search.now.cx c.args.search.now.graph c.args.search.now.cache c.requires.rest

pub returns-in_default-clause-held : goal.returns-in_default-clause-held
returns-in_default-clause-held c = subst (ReferencesHeld c.args.search.now.cx.interner.entries) (sym c.new.ensures.references) tt

pub walk_alone-requires-clause-rest : goal.walk_alone-requires-clause-rest
walk_alone-requires-clause-rest c = c.requires.rest

pub walk_alone-requires-clause-table : goal.walk_alone-requires-clause-table
walk_alone-requires-clause-table c = c.requires.table

pub walk_alone-requires-clause-goal : goal.walk_alone-requires-clause-goal
walk_alone-requires-clause-goal c =
    goal-there c.args.search.now.cx.interner.entries c.args.goals.now.obligations.items c.obligations.result.now c.obligations.ensures c.args.number c.in-Some.obligation.now c.requires.goals
    c.in-Some.ensures.lookup.3.0 (c.in-Some.ensures.lookup.3.1 c.in-Some.obligation.now)

pub returns-in_err-walk-clause-rests : goal.returns-in_err-walk-clause-rests
returns-in_err-walk-clause-rests c = c.walk_alone.ensures.rests

pub returns-clause-rests : goal.returns-clause-rests
returns-clause-rests c = c.walk_alone.ensures.rests

pub returns-clause-held : goal.returns-clause-held
returns-clause-held c = c.in_ok-walk.ensures.held
