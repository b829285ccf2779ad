use Rattle.std.proofs.Common.{refl}
use Rattle.explain_sessions.proofs.Rests.{grown}
use Rattle.explain_sessions.proofs.refusals.goal_table_in.Goals as goal

pub returns-clause-advances : goal.returns-clause-advances
returns-clause-advances c =
    grown c.args.cx.now (record { alloc = c.args.cx.now.alloc; interner = c.table_for_goals-table.new.cx; handler = c.args.cx.now.handler; store = c.args.cx.now.store }) c.requires
    (record { handler = refl; store = refl; entries = c.table_for_goals-table.ensures.grew.keeps; lawful = c.lawful.ensures; limit = c.table_for_goals-table.ensures.grew.limit })
