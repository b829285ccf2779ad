use Rattle.std.proofs.Common.{refl}
use Rattle.sessions.proofs.supertraits.own_goals_in.Goals as goal

pub own_goals-goals-requires-clause-ready : goal.own_goals-goals-requires-clause-ready
own_goals-goals-requires-clause-ready c = c.requires.ready.handler

pub own_goals-goals-requires-clause-applied : goal.own_goals-goals-requires-clause-applied
own_goals-goals-requires-clause-applied c = c.requires.applied

pub returns-clause-advances : goal.returns-clause-advances
returns-clause-advances c =
    c.rest_laws.ensures.interner c.args.cx.now (record { alloc = c.args.cx.now.alloc; interner = c.own_goals-goals.new.cx; handler = c.args.cx.now.handler; store = c.args.cx.now.store }) c.requires.ready
    (record { handler = refl; store = refl; entries = c.own_goals-goals.ensures.terms.grew.keeps; lawful = c.lawful.ensures; limit = c.own_goals-goals.ensures.terms.grew.limit })

pub returns-clause-goals : goal.returns-clause-goals
returns-clause-goals c = c.own_goals-goals.ensures.goals
