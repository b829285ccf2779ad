use Rattle.std.proofs.Common.{arith, refl}
use Rattle.type_terms.specs.Promised.Handles.{types}
use Rattle.inference.proofs.Results.{full-at-limit}
use Rattle.session_inference.proofs.making.ty_in.Goals as goal

pub returns-clause-advances : goal.returns-clause-advances
returns-clause-advances g c =
    let x = c.args.cx.now in
    let made = c.mk_ty-made in
    c.context_laws.ensures.interner x (record { alloc = x.alloc; interner = made.new.self; handler = x.handler; store = x.store }) c.requires.ready
    (record { handler = refl; store = refl; entries = made.ensures.grew.keeps; lawful = c.lawful.ensures; limit = made.ensures.grew.limit })

pub returns-clause-full : goal.returns-clause-full
returns-clause-full g c =
    let made = c.mk_ty-made in
    full-at-limit made.result c.args.cx.now.interner made.new.self types (omega arith) made.ensures.full made.ensures.refused made.ensures.grew.limit
