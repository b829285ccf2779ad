use Rattle.std.proofs.Common.{◌≡◌, true, Some, ap, sym, subst}
use Rattle.std.specs.Prelude.{IfOk, slice_get}
use Rattle.sessions.specs.TypeTerms.Promised.Worlds.{World}
use Rattle.explain_traces.specs.Walking.{ReferencesHeld}
use Rattle.explain_traces.proofs.Walks.{references-later}
use Rattle.sessions.proofs.ProofChecker.Results.{mapped}
use Rattle.sessions.specs.Checking.{rules_in}
use Rattle.sessions.specs.Promised.Promises.{view_in}
use Rattle.sessions.specs.Promised.Subjects.{Subject}
use Rattle.sessions.proofs.Keeping.{session-rests}
use Rattle.explain_sessions.specs.Refusals.{HoldsAt}
use Rattle.explain_sessions.proofs.HeldGoals.{holds-aside}
use Rattle.explain_sessions.proofs.RuleCandidates.{there-held}
use Rattle.explain_sessions.proofs.Staying.{kept-within, stays}
use Rattle.explain_sessions.proofs.alone.is_held_alone_at.Goals as goal

pub holds_alone-requires-clause-rest : goal.holds_alone-requires-clause-rest
holds_alone-requires-clause-rest c = session-rests c.session.inside.workspace.now c.session.inside.crate_id.index c.session.inside.limits.depth c.session.inside.search.cx c.session.inside.search.graph c.session.inside.search.cache c.session.invariant.session

pub holds_alone-requires-clause-held : goal.holds_alone-requires-clause-held
holds_alone-requires-clause-held c =
    there-held c.session.inside.search.cx.interner.entries c.args.walk.now.references.items c.args.place c.in-Some.reference
    (subst (λ (s : Subject). ReferencesHeld s.terms c.args.walk.now.references.items) (sym c.session.view_is) c.requires)
    (subst (λ xs. slice_get xs c.args.place ≡ Some c.in-Some.reference) c.deref.ensures.value c.in-Some.ensures)

pub invariant_of-session : goal.invariant_of-session
invariant_of-session c = kept-within c.session.inside.workspace.now c.session.inside.crate_id.index c.session.inside.limits.depth c.session.inside.limits.handles c.session.inside.search.cx c.holds_alone.new.search.cx c.session.inside.search.graph c.holds_alone.new.search.graph c.session.inside.search.cache c.holds_alone.new.search.cache c.session.invariant c.holds_alone.ensures.rests

pub returns-clause-stays : goal.returns-clause-stays
returns-clause-stays c = stays c.session.inside.workspace.now c.session.inside.crate_id.index c.session.inside.limits.depth c.session.inside.limits.handles c.session.inside.search.cx c.holds_alone.new.search.cx c.session.inside.search.graph c.holds_alone.new.search.graph _ c.session.view_is c.holds_alone.ensures.rests.keeps

pub returns-clause-holds : goal.returns-clause-holds
returns-clause-holds c =
    let i = c.session.inside in
    let es = i.search.cx.interner.entries in
    let rs = c.args.walk.now.references.items in
    let cs = (view_in i.workspace.now i.crate_id.index).crates in
    subst (λ (s : Subject). IfOk c.holds_alone.result (λ b. b ≡ true → HoldsAt s.terms (view_in s.declarations s.of_crate) rs c.args.place)) c.session.view_is
    (mapped _ _ c.holds_alone.result
    (λ b f e. subst (λ (V : World). HoldsAt es V rs c.args.place) (ap (λ (V : World). record V { crates = cs }) c.session.invariant.session.view.rules)
    (holds-aside (rules_in i.search.cx) cs es rs c.args.place (c.in-Some.reference, subst (λ xs. slice_get xs c.args.place ≡ Some c.in-Some.reference) c.deref.ensures.value c.in-Some.ensures, f e)))
    c.holds_alone.ensures.holds)

pub returns-clause-held : goal.returns-clause-held
returns-clause-held c = references-later c.session.inside.search.cx.interner.entries c.holds_alone.new.search.cx.interner.entries c.holds_alone.ensures.rests.keeps c.args.walk.now.references.items (subst (λ (s : Subject). ReferencesHeld s.terms c.args.walk.now.references.items) (sym c.session.view_is) c.requires)
