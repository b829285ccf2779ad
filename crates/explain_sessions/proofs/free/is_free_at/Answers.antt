use Rattle.std.proofs.Common.{◌≡◌, Some, refl, subst}
use Rattle.std.specs.List.{slice_get}
use Rattle.sessions.proofs.ProofChecker.Results.{mapped}
use Rattle.explain_sessions.proofs.Rests.{grown}
use Rattle.explain_sessions.proofs.RuleCandidates.{there-held}
use Rattle.explain_sessions.proofs.free.is_free_at.Goals as goal

pub is_free-told-requires-clause-reference : goal.is_free-told-requires-clause-reference
is_free-told-requires-clause-reference c =
    let r = c.in-Some.reference in
    there-held c.args.cx.now.interner.entries c.args.walk.now.references.items c.args.place r c.requires.walked (subst (λ l. slice_get l c.args.place ≡ Some r) c.deref.ensures.value c.in-Some.ensures)

pub returns-clause-advances : goal.returns-clause-advances
returns-clause-advances c =
    grown c.args.cx.now (record { alloc = c.args.cx.now.alloc; interner = c.is_free-told.new.cx; handler = c.args.cx.now.handler; store = c.args.cx.now.store }) c.requires.ready
    (record { handler = refl; store = refl; entries = c.is_free-told.ensures.grew.keeps; lawful = c.lawful.ensures; limit = c.is_free-told.ensures.grew.limit })

pub returns-clause-free : goal.returns-clause-free
returns-clause-free c =
    let r = c.in-Some.reference in
    mapped _ _ c.is_free-told.result
    (λ b f q. (r, subst (λ l. slice_get l c.args.place ≡ Some r) c.deref.ensures.value c.in-Some.ensures, f q))
    c.is_free-told.ensures.free
