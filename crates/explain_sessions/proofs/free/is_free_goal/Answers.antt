use Rattle.std.proofs.Common.{◌≡◌, true, sym, subst}
use Rattle.std.specs.Prelude.{IfOk}
use Rattle.sessions.specs.TypeTerms.Promised.Worlds.{World}
use Rattle.sessions.proofs.ProofChecker.Results.{mapped}
use Rattle.explain_traces.proofs.Walks.{references-later}
use Rattle.sessions.specs.Promised.Promises.{view_in}
use Rattle.sessions.specs.Promised.Subjects.{Subject}
use Rattle.sessions.proofs.Keeping.{session-rests}
use Rattle.explain_sessions.specs.Claims.{IsFreeAt}
use Rattle.explain_sessions.specs.Walked.{WalkHeld}
use Rattle.explain_sessions.proofs.Rests.{rests-advanced}
use Rattle.explain_sessions.proofs.Staying.{kept-within, stays}
use Rattle.explain_sessions.proofs.free.is_free_goal.Goals as goal

pub is_free_at-requires-clause-ready : goal.is_free_at-requires-clause-ready
is_free_at-requires-clause-ready c = c.session.invariant.session.rest.ready

pub is_free_at-requires-clause-walked : goal.is_free_at-requires-clause-walked
is_free_at-requires-clause-walked c = subst (λ (s : Subject). WalkHeld s.terms c.args.walk.now) (sym c.session.view_is) c.requires

pub invariant_of-session : goal.invariant_of-session
invariant_of-session c =
    let i = c.session.inside in
    let new = c.is_free_at.new.cx in
    kept-within i.workspace.now i.crate_id.index i.limits.depth i.limits.handles i.search.cx new i.search.graph i.search.graph i.search.cache i.search.cache c.session.invariant
    (rests-advanced i.search.graph.root_depth i.search.cx new i.search.graph i.search.cache (session-rests i.workspace.now i.crate_id.index i.limits.depth i.search.cx i.search.graph i.search.cache c.session.invariant.session) c.is_free_at.ensures.advances)

pub returns-clause-free : goal.returns-clause-free
returns-clause-free c =
    let i = c.session.inside in
    let es = i.search.cx.interner.entries in
    let rs = c.args.walk.now.references.items in
    let p = c.args.place in
    subst (λ (s : Subject). IfOk c.is_free_at.result (λ b. b ≡ true → IsFreeAt s.terms (view_in s.declarations s.of_crate) rs p)) c.session.view_is
    (mapped _ _ c.is_free_at.result (λ b f q. subst (λ (V : World). IsFreeAt es V rs p) c.session.invariant.session.view.rules (f q)) c.is_free_at.ensures.free)

pub returns-clause-held : goal.returns-clause-held
returns-clause-held c =
    references-later c.session.inside.search.cx.interner.entries c.is_free_at.new.cx.interner.entries c.is_free_at.ensures.advances.entries c.args.walk.now.references.items
    (subst (λ (s : Subject). WalkHeld s.terms c.args.walk.now) (sym c.session.view_is) c.requires)

pub returns-clause-stays : goal.returns-clause-stays
returns-clause-stays c =
    let i = c.session.inside in
    stays i.workspace.now i.crate_id.index i.limits.depth i.limits.handles i.search.cx c.is_free_at.new.cx i.search.graph i.search.graph _ c.session.view_is c.is_free_at.ensures.advances.entries
