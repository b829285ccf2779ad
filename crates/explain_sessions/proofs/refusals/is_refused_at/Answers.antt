use Rattle.std.proofs.Common.{◌≡◌, true, Some, sym, subst}
use Rattle.std.specs.Prelude.{IfOk, slice_get}
use Rattle.explain_traces.specs.Walking.{ReferencesHeld}
use Rattle.explain_traces.proofs.Walks.{references-later}
use Rattle.sessions.proofs.ProofChecker.Results.{mapped}
use Rattle.sessions.specs.Promised.Promises.{view_in}
use Rattle.sessions.specs.Promised.Subjects.{Subject}
use Rattle.sessions.proofs.Keeping.{session-rests}
use Rattle.explain_sessions.specs.Refusals.{IsRefusedAt}
use Rattle.explain_sessions.proofs.RuleCandidates.{there-held}
use Rattle.explain_sessions.proofs.Staying.{kept-within, stays}
use Rattle.explain_sessions.proofs.refusals.is_refused_at.Goals as goal

pub is_refused-requires-clause-rest : goal.is_refused-requires-clause-rest
is_refused-requires-clause-rest c = session-rests c.session.inside.workspace.now c.session.inside.crate_id.index c.session.inside.limits.depth c.session.inside.search.cx c.session.inside.search.graph c.session.inside.search.cache c.session.invariant.session

pub is_refused-requires-clause-held : goal.is_refused-requires-clause-held
is_refused-requires-clause-held c =
    there-held c.session.inside.search.cx.interner.entries c.args.walk.now.references.items c.args.place c.in-Some.reference
    (subst (λ (s : Subject). ReferencesHeld s.terms c.args.walk.now.references.items) (sym c.session.view_is) c.requires)
    (subst (λ xs. slice_get xs c.args.place ≡ Some c.in-Some.reference) c.deref.ensures.value c.in-Some.ensures)

pub invariant_of-session : goal.invariant_of-session
invariant_of-session c = kept-within c.session.inside.workspace.now c.session.inside.crate_id.index c.session.inside.limits.depth c.session.inside.limits.handles c.session.inside.search.cx c.is_refused.new.search.cx c.session.inside.search.graph c.is_refused.new.search.graph c.session.inside.search.cache c.is_refused.new.search.cache c.session.invariant c.is_refused.ensures.rests

pub returns-clause-stays : goal.returns-clause-stays
returns-clause-stays c = stays c.session.inside.workspace.now c.session.inside.crate_id.index c.session.inside.limits.depth c.session.inside.limits.handles c.session.inside.search.cx c.is_refused.new.search.cx c.session.inside.search.graph c.is_refused.new.search.graph _ c.session.view_is c.is_refused.ensures.rests.keeps

pub returns-clause-refused : goal.returns-clause-refused
returns-clause-refused c =
    let i = c.session.inside in
    let rs = c.args.walk.now.references.items in
    subst (λ (s : Subject). IfOk c.is_refused.result (λ b. b ≡ true → IsRefusedAt s.terms (view_in s.declarations s.of_crate) s.of_crate rs c.args.place)) c.session.view_is
    (mapped _ _ c.is_refused.result
    (λ b f e. (c.in-Some.reference, subst (λ xs. slice_get xs c.args.place ≡ Some c.in-Some.reference) c.deref.ensures.value c.in-Some.ensures, f e i.workspace.now i.crate_id.index c.session.invariant.session.view))
    c.is_refused.ensures.refused)

pub returns-clause-held : goal.returns-clause-held
returns-clause-held c = references-later c.session.inside.search.cx.interner.entries c.is_refused.new.search.cx.interner.entries c.is_refused.ensures.rests.keeps c.args.walk.now.references.items (subst (λ (s : Subject). ReferencesHeld s.terms c.args.walk.now.references.items) (sym c.session.view_is) c.requires)
