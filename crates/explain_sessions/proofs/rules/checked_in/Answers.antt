use Rattle.std.proofs.Common.{refl}
use Rattle.sessions.proofs.InferTable.TableFacts.{empty-ready}
use Rattle.explain_sessions.proofs.Rests.{grown}
use Rattle.explain_sessions.proofs.rules.checked_in.Goals as goal

pub checked_among-checked-requires-clause-table : goal.checked_among-checked-requires-clause-table
checked_among-checked-requires-clause-table c = empty-ready c.args.cx.now.interner.entries c.new-table.result c.new-table.ensures

pub returns-clause-advances : goal.returns-clause-advances
returns-clause-advances c =
    grown c.args.cx.now (record { alloc = c.args.cx.now.alloc; interner = c.checked_among-checked.new.cx; handler = c.args.cx.now.handler; store = c.args.cx.now.store }) c.requires.ready
    (record { handler = refl; store = refl; entries = c.checked_among-checked.ensures.grew.keeps; lawful = c.lawful.ensures; limit = c.checked_among-checked.ensures.grew.limit })
