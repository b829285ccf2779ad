use Rattle.std.proofs.Common.{refl}
use Rattle.sessions.proofs.asked.lower_in.Goals as goal

pub returns-clause-advances : goal.returns-clause-advances
returns-clause-advances g c =
    c.rest_laws.ensures.interner c.args.cx.now (record { alloc = c.args.cx.now.alloc; interner = c.lower_question-lowered.new.cx; handler = c.args.cx.now.handler; store = c.args.cx.now.store }) c.requires.ready
    (record { handler = refl; store = refl; entries = c.lower_question-lowered.ensures.terms.grew.keeps; lawful = c.lawful.ensures; limit = c.lower_question-lowered.ensures.terms.grew.limit })
