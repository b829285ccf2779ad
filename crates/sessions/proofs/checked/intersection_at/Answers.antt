use Rattle.std.proofs.Common.{refl}
use Rattle.declarations.specs.Items.{declared}
use Rattle.sessions.proofs.PairChecks.{none-apart, apart-at, found-ok}
use Rattle.sessions.proofs.checked.intersection_at.Goals as goal

pub returns-in_default-clause-apart : goal.returns-in_default-clause-apart
returns-in_default-clause-apart c = λ _.
    let es = c.args.cx.now.interner.entries in
    let d = c.args.cx.now.handler.declarations in
    none-apart (declared es d) d.local c.args.later.index c.args.earlier.index (c.in_default.ensures.none es)

pub returns-then-headers_differ-clause-apart : goal.returns-then-headers_differ-clause-apart
returns-then-headers_differ-clause-apart c = λ _.
    let es = c.args.cx.now.interner.entries in
    let d = c.args.cx.now.handler.declarations in
    apart-at es d c.args.later c.args.earlier c.in-Some.left.now c.in-Some.right.now (c.in-Some.ensures.pair es) c.requires.numbers (c.headers_differ.ensures c.if-headers_differ.true)

pub impl_intersection-found-requires-clause-left_written : goal.impl_intersection-found-requires-clause-left_written
impl_intersection-found-requires-clause-left_written c =
    let es = c.args.cx.now.interner.entries in
    (c.in-Some.ensures.written es (c.ready_impls_are_written_well.ensures es c.args.cx.now.handler.declarations c.requires.ready.handler).0).0

pub impl_intersection-found-requires-clause-right_written : goal.impl_intersection-found-requires-clause-right_written
impl_intersection-found-requires-clause-right_written c =
    let es = c.args.cx.now.interner.entries in
    (c.in-Some.ensures.written es (c.ready_impls_are_written_well.ensures es c.args.cx.now.handler.declarations c.requires.ready.handler).0).1

pub returns-clause-advances : goal.returns-clause-advances
returns-clause-advances c =
    c.rest_laws.ensures.interner c.args.cx.now (record { alloc = c.args.cx.now.alloc; interner = c.impl_intersection-found.new.cx; handler = c.args.cx.now.handler; store = c.args.cx.now.store }) c.requires.ready
    (record { handler = refl; store = refl; entries = c.impl_intersection-found.ensures.terms.grew.keeps; lawful = c.lawful.ensures; limit = c.impl_intersection-found.ensures.terms.grew.limit })

pub returns-clause-apart : goal.returns-clause-apart
returns-clause-apart c = λ e.
    let es = c.args.cx.now.interner.entries in
    let d = c.args.cx.now.handler.declarations in
    apart-at es d c.args.later c.args.earlier c.in-Some.left.now c.in-Some.right.now (c.in-Some.ensures.pair es) c.requires.numbers (c.impl_intersection-found.ensures.apart e)

pub returns-clause-found : goal.returns-clause-found
returns-clause-found c =
    let es = c.args.cx.now.interner.entries in
    let d = c.args.cx.now.handler.declarations in
    found-ok es c.impl_intersection-found.new.cx.entries d c.args.later c.args.earlier c.in-Some.left.now c.in-Some.right.now (c.in-Some.ensures.pair es)
    (c.ready_impls_are_written_well.ensures es d c.requires.ready.handler).1 c.impl_intersection-found.result c.impl_intersection-found.ensures.found c.impl_intersection-found.ensures.solved c.impl_intersection-found.ensures.posed
