use Rattle.std.proofs.Common.{refl}
use Rattle.sessions.proofs.checked.first_broken_header.Goals as goal

pub first_orphan-found-requires-clause-held : goal.first_orphan-found-requires-clause-held
first_orphan-found-requires-clause-held c = c.requires.ready.handler.held

pub first_orphan-found-requires-clause-written : goal.first_orphan-found-requires-clause-written
first_orphan-found-requires-clause-written c = (c.ready_impls_are_written_well.ensures c.args.cx.now.interner.entries c.args.cx.now.handler.declarations c.requires.ready.handler).0

pub returns-clause-advances : goal.returns-clause-advances
returns-clause-advances c =
    c.rest_laws.ensures.interner c.args.cx.now (record { alloc = c.args.cx.now.alloc; interner = c.first_orphan-found.new.cx; handler = c.args.cx.now.handler; store = c.args.cx.now.store }) c.requires.ready
    (record { handler = refl; store = refl; entries = c.first_orphan-found.ensures.terms.grew.keeps; lawful = c.lawful.ensures; limit = c.first_orphan-found.ensures.terms.grew.limit })

pub returns-clause-held : goal.returns-clause-held
returns-clause-held c = c.first_orphan-found.ensures.held

pub returns-clause-first : goal.returns-clause-first
returns-clause-first c = c.first_orphan-found.ensures.first
