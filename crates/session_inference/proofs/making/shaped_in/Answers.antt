use Rattle.std.proofs.Common.{refl}
use Rattle.session_inference.proofs.making.shaped_in.Goals as goal

pub returns-clause-advances : goal.returns-clause-advances
returns-clause-advances g c =
    let x = c.args.cx.now in
    let made = c.shaped-made in
    c.context_laws.ensures.interner x (record { alloc = x.alloc; interner = made.new.cx; handler = x.handler; store = x.store }) c.requires.ready
    (record { handler = refl; store = refl; entries = made.ensures.terms.grew.keeps; lawful = c.lawful.ensures; limit = made.ensures.terms.grew.limit })
