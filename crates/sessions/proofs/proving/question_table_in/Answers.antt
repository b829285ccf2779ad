use Rattle.std.proofs.Common.{refl}
use Rattle.sessions.proofs.proving.question_table_in.Goals as goal

pub returns-clause-advances : goal.returns-clause-advances
returns-clause-advances g c =
    c.rest_laws.ensures.interner c.args.cx.now (record { alloc = c.args.cx.now.alloc; interner = c.question_table-table.new.cx; handler = c.args.cx.now.handler; store = c.args.cx.now.store }) c.requires
    (record { handler = refl; store = refl; entries = c.question_table-table.ensures.terms.grew.keeps; lawful = c.lawful.ensures; limit = c.question_table-table.ensures.terms.grew.limit })
