use Rattle.std.proofs.Common.{◌≡◌, ◌∙◌, Some, sym, subst}
use Rattle.std.specs.List.{slice_get}
use Rattle.sessions.specs.ProofChecker.Steps.{term_of}
use Rattle.sessions.specs.Promised.Promises.{view_in}
use Rattle.explain_sessions.specs.Adding.{HasFreeInstance}
use Rattle.explain_sessions.specs.Claims.{IsFreeAt, UnseenHold}
use Rattle.explain_sessions.proofs.ClaimsLater.{one-more}
use Rattle.explain_sessions.proofs.FreeGoals.{among, same-reference}
use Rattle.explain_sessions.proofs.RuleCandidates.{there-held}
use Rattle.explain_sessions.proofs.claims.push_unseen.Goals as goal

pub unseen_crates-requires : goal.unseen_crates-requires
unseen_crates-requires c =
    there-held c.args.session.now.terms c.args.walk.now.references.items c.args.place c.in-Some.reference c.requires.walked
    (subst (λ xs. slice_get xs c.args.place ≡ Some c.in-Some.reference) c.deref.ensures.value c.in-Some.ensures)

pub push_adder-requires-clause-held : goal.push_adder-requires-clause-held
push_adder-requires-clause-held c =
    there-held c.args.session.now.terms c.args.walk.now.references.items c.args.place c.in-Some.reference c.requires.walked
    (subst (λ xs. slice_get xs c.args.place ≡ Some c.in-Some.reference) c.deref.ensures.value c.in-Some.ensures)

pub push_adder-requires-clause-there : goal.push_adder-requires-clause-there
push_adder-requires-clause-there c = subst (λ xs. slice_get xs c.args.place ≡ Some c.in-Some.reference) c.deref.ensures.value c.in-Some.ensures

pub push_adder-requires-clause-unseen : goal.push_adder-requires-clause-unseen
push_adder-requires-clause-unseen c = c.in_ok-found.ensures

pub push_adder-requires-clause-free : goal.push_adder-requires-clause-free
push_adder-requires-clause-free c =
    let s = c.args.session.now in
    let V = view_in s.declarations s.of_crate in
    let p = c.args.place in
    let rs = c.args.walk.now.references.items in
    let x = among (IsFreeAt s.terms V rs) c.args.free.now p c.requires.free (sym c.contains.ensures.value ∙ c.if-contains.true) in
    let at = subst (λ xs. slice_get xs p ≡ Some c.in-Some.reference) c.deref.ensures.value c.in-Some.ensures in
    same-reference (λ r. HasFreeInstance V (term_of s.terms r)) rs p x.0 c.in-Some.reference x.1 at x.2

pub returns-in_err-push_adder-clause-unseen : goal.returns-in_err-push_adder-clause-unseen
returns-in_err-push_adder-clause-unseen c =
    let at = subst (λ xs. slice_get xs c.args.place ≡ Some c.in-Some.reference) c.deref.ensures.value c.in-Some.ensures in
    subst (UnseenHold c.args.session.now c.args.walk.now) (sym c.in_ok-push.ensures.items)
    (one-more c.args.session.now c.args.walk.now _ _ c.requires.unseen (c.in-Some.reference, at, c.in_ok-found.ensures))

pub returns-in_ok-push_adder-clause-unseen : goal.returns-in_ok-push_adder-clause-unseen
returns-in_ok-push_adder-clause-unseen c =
    let at = subst (λ xs. slice_get xs c.args.place ≡ Some c.in-Some.reference) c.deref.ensures.value c.in-Some.ensures in
    subst (UnseenHold c.args.session.now c.args.walk.now) (sym c.in_ok-push.ensures.items)
    (one-more c.args.session.now c.args.walk.now _ _ c.requires.unseen (c.in-Some.reference, at, c.in_ok-found.ensures))

pub returns-else-contains-clause-unseen : goal.returns-else-contains-clause-unseen
returns-else-contains-clause-unseen c =
    let at = subst (λ xs. slice_get xs c.args.place ≡ Some c.in-Some.reference) c.deref.ensures.value c.in-Some.ensures in
    subst (UnseenHold c.args.session.now c.args.walk.now) (sym c.in_ok-push.ensures.items)
    (one-more c.args.session.now c.args.walk.now _ _ c.requires.unseen (c.in-Some.reference, at, c.in_ok-found.ensures))
