use Rattle.std.proofs.Common.{refl}
use Rattle.sessions.proofs.fixed_goals.reference_of.Goals as goal

pub returns-clause-advances : goal.returns-clause-advances
returns-clause-advances c =
    c.rest_laws.ensures.interner c.args.cx.now (record { alloc = c.args.cx.now.alloc; interner = c.goal_reference-made.new.cx; handler = c.args.cx.now.handler; store = c.args.cx.now.store }) c.requires.ready
    (record { handler = refl; store = refl; entries = c.goal_reference-made.ensures.terms.grew.keeps; lawful = c.lawful.ensures; limit = c.goal_reference-made.ensures.terms.grew.limit })
