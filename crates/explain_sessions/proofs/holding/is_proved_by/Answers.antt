use Rattle.std.proofs.Common.{refl}
use Rattle.sessions.proofs.ProofChecker.Results.{mapped}
use Rattle.sessions.specs.ProofChecker.Steps.{term_of}
use Rattle.sessions.specs.Checking.{rules_in}
use Rattle.sessions.proofs.ShownProofs.{covered-of}
use Rattle.explain_sessions.proofs.HeldGoals.{has-proof}
use Rattle.explain_sessions.proofs.Rests.{grown, unchanged}
use Rattle.explain_sessions.proofs.holding.is_proved_by.Goals as goal

pub returns-then-not-assumes_nothing-clause-advances : goal.returns-then-not-assumes_nothing-clause-advances
returns-then-not-assumes_nothing-clause-advances c = unchanged c.args.cx.now c.requires.ready

pub is_proof_of-found-requires-clause-declared : goal.is_proof_of-found-requires-clause-declared
is_proof_of-found-requires-clause-declared c = c.requires.ready.handler.held

pub is_proof_of-found-requires-clause-covered : goal.is_proof_of-found-requires-clause-covered
is_proof_of-found-requires-clause-covered c =
    let es = c.args.cx.now.interner.entries in
    let d = c.args.cx.now.handler.declarations in
    covered-of es d (c.ready_impls_are_written_well.ensures es d c.requires.ready.handler).0

pub is_proof_of-found-requires-clause-bounds : goal.is_proof_of-found-requires-clause-bounds
is_proof_of-found-requires-clause-bounds c = c.requires.ready.handler.bounds

pub is_proof_of-found-requires-clause-clauses : goal.is_proof_of-found-requires-clause-clauses
is_proof_of-found-requires-clause-clauses c = tt

pub returns-clause-advances : goal.returns-clause-advances
returns-clause-advances c =
    grown c.args.cx.now (record { alloc = c.args.cx.now.alloc; interner = c.is_proof_of-found.new.cx; handler = c.args.cx.now.handler; store = c.args.cx.now.store }) c.requires.ready
    (record { handler = refl; store = refl; entries = c.is_proof_of-found.ensures.terms.grew.keeps; lawful = c.lawful.ensures; limit = c.is_proof_of-found.ensures.terms.grew.limit })

pub returns-clause-proof : goal.returns-clause-proof
returns-clause-proof c =
    let es = c.args.cx.now.interner.entries in
    mapped _ _ c.is_proof_of-found.result
    (λ b f e. has-proof es (rules_in c.args.cx.now) (term_of es c.args.reference) c.args.steps.now (c.assumes_nothing.ensures c.if-not-assumes_nothing.false es) (f e)) c.is_proof_of-found.ensures.proof
