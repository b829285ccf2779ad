use Rattle.std.proofs.Common.{refl}
use Rattle.sessions.proofs.ShownProofs.{covered-of}
use Rattle.sessions.proofs.shown.is_proof_in.Goals as goal

pub is_proof_of-found-requires-clause-declared : goal.is_proof_of-found-requires-clause-declared
is_proof_of-found-requires-clause-declared c = c.requires.ready.handler.held

pub is_proof_of-found-requires-clause-covered : goal.is_proof_of-found-requires-clause-covered
is_proof_of-found-requires-clause-covered c =
    let es = c.args.cx.now.interner.entries in
    let d = c.args.cx.now.handler.declarations in
    covered-of es d (c.ready_impls_are_written_well.ensures es d c.requires.ready.handler).0

pub is_proof_of-found-requires-clause-bounds : goal.is_proof_of-found-requires-clause-bounds
is_proof_of-found-requires-clause-bounds c = c.requires.ready.handler.bounds

pub is_proof_of-found-requires-clause-clauses : goal.is_proof_of-found-requires-clause-clauses
is_proof_of-found-requires-clause-clauses c = c.requires.clauses

pub is_proof_of-found-requires-clause-asked : goal.is_proof_of-found-requires-clause-asked
is_proof_of-found-requires-clause-asked c = c.requires.asked

pub is_proof_of-found-requires-clause-steps : goal.is_proof_of-found-requires-clause-steps
is_proof_of-found-requires-clause-steps c = c.requires.steps

pub returns-clause-advances : goal.returns-clause-advances
returns-clause-advances c =
    c.rest_laws.ensures.interner c.args.cx.now (record { alloc = c.args.cx.now.alloc; interner = c.is_proof_of-found.new.cx; handler = c.args.cx.now.handler; store = c.args.cx.now.store }) c.requires.ready
    (record { handler = refl; store = refl; entries = c.is_proof_of-found.ensures.terms.grew.keeps; lawful = c.lawful.ensures; limit = c.is_proof_of-found.ensures.terms.grew.limit })

pub returns-clause-proof : goal.returns-clause-proof
returns-clause-proof c = c.is_proof_of-found.ensures.proof
