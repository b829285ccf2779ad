use Rattle.std.proofs.Common.{refl}
use Rattle.explain_sessions.proofs.Rests.{grown}
use Rattle.explain_sessions.proofs.pairs.common_header_at.Goals as goal

pub returns-clause-advances : goal.returns-clause-advances
returns-clause-advances c =
    grown c.args.cx.now (record { alloc = c.args.cx.now.alloc; interner = c.checked_common-common.new.cx; handler = c.args.cx.now.handler; store = c.args.cx.now.store }) c.requires.ready
    (record { handler = refl; store = refl; entries = c.checked_common-common.ensures.grew.keeps; lawful = c.lawful.ensures; limit = c.checked_common-common.ensures.grew.limit })
