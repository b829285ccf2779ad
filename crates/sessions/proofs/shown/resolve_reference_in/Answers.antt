use Rattle.std.proofs.Common.{refl}
use Rattle.sessions.proofs.shown.resolve_reference_in.Goals as goal

pub returns-clause-advances : goal.returns-clause-advances
returns-clause-advances c =
    c.rest_laws.ensures.interner c.args.cx.now (record { alloc = c.args.cx.now.alloc; interner = c.resolve_reference-instance.new.cx; handler = c.args.cx.now.handler; store = c.args.cx.now.store }) c.requires.ready
    (record { handler = refl; store = refl; entries = c.resolve_reference-instance.ensures.grew.keeps; lawful = c.lawful.ensures; limit = c.resolve_reference-instance.ensures.grew.limit })

pub returns-clause-held : goal.returns-clause-held
returns-clause-held c = c.resolve_reference-instance.ensures.held

pub returns-clause-resolved : goal.returns-clause-resolved
returns-clause-resolved c = c.resolve_reference-instance.ensures.resolved
