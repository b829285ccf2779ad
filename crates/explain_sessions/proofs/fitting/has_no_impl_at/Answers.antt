use Rattle.std.proofs.Common.{◌≡◌, Some, refl, subst}
use Rattle.std.specs.List.{slice_get}
use Rattle.sessions.proofs.ProofChecker.Results.{mapped}
use Rattle.explain_sessions.proofs.Rests.{grown}
use Rattle.explain_sessions.proofs.RuleCandidates.{there-held}
use Rattle.explain_sessions.proofs.fitting.has_no_impl_at.Goals as goal

pub has_no_impl-told-requires-clause-reference : goal.has_no_impl-told-requires-clause-reference
has_no_impl-told-requires-clause-reference c =
    let r = c.in-Some.reference in
    there-held c.args.cx.now.interner.entries c.args.walk.now.references.items c.args.place r c.requires.walked (subst (λ l. slice_get l c.args.place ≡ Some r) c.deref.ensures.value c.in-Some.ensures)

pub returns-clause-advances : goal.returns-clause-advances
returns-clause-advances c =
    grown c.args.cx.now (record { alloc = c.args.cx.now.alloc; interner = c.has_no_impl-told.new.cx; handler = c.args.cx.now.handler; store = c.args.cx.now.store }) c.requires.ready
    (record { handler = refl; store = refl; entries = c.has_no_impl-told.ensures.grew.keeps; lawful = c.lawful.ensures; limit = c.has_no_impl-told.ensures.grew.limit })

pub returns-clause-none : goal.returns-clause-none
returns-clause-none c =
    let r = c.in-Some.reference in
    mapped _ _ c.has_no_impl-told.result
    (λ b f q. (r, subst (λ l. slice_get l c.args.place ≡ Some r) c.deref.ensures.value c.in-Some.ensures, f q))
    c.has_no_impl-told.ensures.none
