use Rattle.std.proofs.Common.{◌≡◌, true, ap, subst, sym}
use Rattle.std.specs.Prelude.{IfOk}
use Rattle.sessions.specs.TypeTerms.Promised.Worlds.{World}
use Rattle.explain_traces.specs.Walking.{ReferencesHeld}
use Rattle.explain_traces.proofs.Walks.{references-later}
use Rattle.sessions.proofs.ProofChecker.Results.{mapped}
use Rattle.sessions.specs.Checking.{rules_in}
use Rattle.sessions.specs.Promised.Promises.{view_in}
use Rattle.sessions.specs.Promised.Subjects.{Subject}
use Rattle.sessions.proofs.Keeping.{session-rests}
use Rattle.explain_sessions.specs.Refusals.{HoldsAt}
use Rattle.explain_sessions.proofs.HeldGoals.{holds-aside}
use Rattle.explain_sessions.proofs.Rests.{rests-advanced}
use Rattle.explain_sessions.proofs.Staying.{kept-within, stays}
use Rattle.explain_sessions.proofs.holding.is_held_at.Goals as goal

pub holds_at-requires-clause-ready : goal.holds_at-requires-clause-ready
holds_at-requires-clause-ready c = c.session.invariant.session.rest.ready

pub holds_at-requires-clause-walked : goal.holds_at-requires-clause-walked
holds_at-requires-clause-walked c = subst (λ (s : Subject). ReferencesHeld s.terms c.args.walk.now.references.items) (sym c.session.view_is) c.requires

pub invariant_of-session : goal.invariant_of-session
invariant_of-session c = kept-within c.session.inside.workspace.now c.session.inside.crate_id.index c.session.inside.limits.depth c.session.inside.limits.handles c.session.inside.search.cx c.holds_at.new.cx c.session.inside.search.graph c.session.inside.search.graph c.session.inside.search.cache c.session.inside.search.cache c.session.invariant (rests-advanced c.session.inside.search.graph.root_depth c.session.inside.search.cx c.holds_at.new.cx c.session.inside.search.graph c.session.inside.search.cache (session-rests c.session.inside.workspace.now c.session.inside.crate_id.index c.session.inside.limits.depth c.session.inside.search.cx c.session.inside.search.graph c.session.inside.search.cache c.session.invariant.session) c.holds_at.ensures.advances)

pub returns-clause-stays : goal.returns-clause-stays
returns-clause-stays c = stays c.session.inside.workspace.now c.session.inside.crate_id.index c.session.inside.limits.depth c.session.inside.limits.handles c.session.inside.search.cx c.holds_at.new.cx c.session.inside.search.graph c.session.inside.search.graph _ c.session.view_is c.holds_at.ensures.advances.entries

pub returns-clause-holds : goal.returns-clause-holds
returns-clause-holds c =
    let i = c.session.inside in
    let es = i.search.cx.interner.entries in
    let rs = c.args.walk.now.references.items in
    let cs = (view_in i.workspace.now i.crate_id.index).crates in
    subst (λ (s : Subject). IfOk c.holds_at.result (λ b. b ≡ true → HoldsAt s.terms (view_in s.declarations s.of_crate) rs c.args.place)) c.session.view_is
    (mapped _ _ c.holds_at.result
    (λ b f e. subst (λ (V : World). HoldsAt es V rs c.args.place) (ap (λ (V : World). record V { crates = cs }) c.session.invariant.session.view.rules) (holds-aside (rules_in i.search.cx) cs es rs c.args.place (f e)))
    c.holds_at.ensures.holds)

pub returns-clause-held : goal.returns-clause-held
returns-clause-held c = references-later c.session.inside.search.cx.interner.entries c.holds_at.new.cx.interner.entries c.holds_at.ensures.advances.entries c.args.walk.now.references.items (subst (λ (s : Subject). ReferencesHeld s.terms c.args.walk.now.references.items) (sym c.session.view_is) c.requires)
