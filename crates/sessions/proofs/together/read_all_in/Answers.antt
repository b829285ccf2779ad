use Rattle.std.proofs.Common.{refl}
use Rattle.sessions.proofs.together.read_all_in.Goals as goal

pub returns-clause-advances : goal.returns-clause-advances
returns-clause-advances g c =
    c.rest_laws.ensures.interner c.args.cx.now (record { alloc = c.args.cx.now.alloc; interner = c.read_all-read.new.cx; handler = c.args.cx.now.handler; store = c.args.cx.now.store }) c.requires.ready
    (record { handler = refl; store = refl; entries = c.read_all-read.ensures.terms.grew.keeps; lawful = c.lawful.ensures; limit = c.read_all-read.ensures.terms.grew.limit })

pub returns-clause-held : goal.returns-clause-held
returns-clause-held g c = c.read_all-read.ensures.held
