use Rattle.std.proofs.Common.{refl}
use Rattle.explain_sessions.proofs.Rests.{grown}
use Rattle.explain_sessions.proofs.steps.steps_in.Goals as goal

pub returns-clause-advances : goal.returns-clause-advances
returns-clause-advances c =
    grown c.args.cx.now (record { alloc = c.args.cx.now.alloc; interner = c.steps_of-steps.new.cx; handler = c.args.cx.now.handler; store = c.args.cx.now.store }) c.requires.ready
    (record { handler = refl; store = refl; entries = c.steps_of-steps.ensures.grew.keeps; lawful = c.lawful.ensures; limit = c.steps_of-steps.ensures.grew.limit })
