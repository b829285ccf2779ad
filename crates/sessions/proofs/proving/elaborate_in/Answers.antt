use Rattle.std.proofs.Common.{refl}
use Rattle.sessions.proofs.proving.elaborate_in.Goals as goal

pub elaborate-elaborated-requires-clause-held : goal.elaborate-elaborated-requires-clause-held
elaborate-elaborated-requires-clause-held c = c.requires.ready.handler.held

pub elaborate-elaborated-requires-clause-bounds : goal.elaborate-elaborated-requires-clause-bounds
elaborate-elaborated-requires-clause-bounds c = c.requires.ready.handler.bounds

pub elaborate-elaborated-requires-clause-references : goal.elaborate-elaborated-requires-clause-references
elaborate-elaborated-requires-clause-references c = c.requires.held

pub elaborate-elaborated-requires-clause-applied : goal.elaborate-elaborated-requires-clause-applied
elaborate-elaborated-requires-clause-applied c = c.requires.applied

pub returns-clause-advances : goal.returns-clause-advances
returns-clause-advances c =
    c.rest_laws.ensures.interner c.args.cx.now (record { alloc = c.args.cx.now.alloc; interner = c.elaborate-elaborated.new.cx; handler = c.args.cx.now.handler; store = c.args.cx.now.store }) c.requires.ready
    (record { handler = refl; store = refl; entries = c.elaborate-elaborated.ensures.terms.grew.keeps; lawful = c.lawful.ensures; limit = c.elaborate-elaborated.ensures.terms.grew.limit })

pub returns-clause-held : goal.returns-clause-held
returns-clause-held c = c.elaborate-elaborated.ensures.held

pub returns-clause-are : goal.returns-clause-are
returns-clause-are c = c.elaborate-elaborated.ensures.are
