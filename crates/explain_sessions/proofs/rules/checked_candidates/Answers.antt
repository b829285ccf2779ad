use Rattle.std.proofs.Common.{ap, subst, sym}
use Rattle.std.specs.Prelude.{IfOk}
use Rattle.sessions.specs.TypeTerms.Promised.Worlds.{World}
use Rattle.sessions.proofs.ProofChecker.Results.{mapped}
use Rattle.explain_traces.proofs.Walks.{references-later}
use Rattle.sessions.specs.Promised.Promises.{view_in}
use Rattle.sessions.specs.Promised.Subjects.{Subject}
use Rattle.sessions.proofs.Keeping.{session-rests}
use Rattle.explain_sessions.specs.Rules.{AreChecked}
use Rattle.explain_sessions.specs.Walked.{WalkHeld}
use Rattle.explain_sessions.proofs.RuleCandidates.{checked-aside}
use Rattle.explain_sessions.proofs.Rests.{rests-advanced}
use Rattle.explain_sessions.proofs.Staying.{kept-within, stays}
use Rattle.explain_sessions.proofs.rules.checked_candidates.Goals as goal

pub checked_in-requires-clause-ready : goal.checked_in-requires-clause-ready
checked_in-requires-clause-ready c = c.session.invariant.session.rest.ready

pub checked_in-requires-clause-walked : goal.checked_in-requires-clause-walked
checked_in-requires-clause-walked c = subst (λ (s : Subject). WalkHeld s.terms c.args.walk.now) (sym c.session.view_is) c.requires

pub invariant_of-session : goal.invariant_of-session
invariant_of-session c = kept-within c.session.inside.workspace.now c.session.inside.crate_id.index c.session.inside.limits.depth c.session.inside.limits.handles c.session.inside.search.cx c.checked_in.new.cx c.session.inside.search.graph c.session.inside.search.graph c.session.inside.search.cache c.session.inside.search.cache c.session.invariant (rests-advanced c.session.inside.search.graph.root_depth c.session.inside.search.cx c.checked_in.new.cx c.session.inside.search.graph c.session.inside.search.cache (session-rests c.session.inside.workspace.now c.session.inside.crate_id.index c.session.inside.limits.depth c.session.inside.search.cx c.session.inside.search.graph c.session.inside.search.cache c.session.invariant.session) c.checked_in.ensures.advances)

pub returns-clause-checked : goal.returns-clause-checked
returns-clause-checked c =
    let i = c.session.inside in
    let es = i.search.cx.interner.entries in
    let w = c.args.walk.now in
    let cs = (view_in i.workspace.now i.crate_id.index).crates in
    subst (λ (s : Subject). IfOk c.checked_in.result (AreChecked s.terms (view_in s.declarations s.of_crate) w)) c.session.view_is
    (mapped _ _ c.checked_in.result
    (λ v h. subst (λ (V : World). AreChecked es V w v) (ap (λ (V : World). record V { crates = cs }) c.session.invariant.session.view.rules) (checked-aside _ cs es w v h))
    c.checked_in.ensures.checked)

pub returns-clause-held : goal.returns-clause-held
returns-clause-held c = references-later c.session.inside.search.cx.interner.entries c.checked_in.new.cx.interner.entries c.checked_in.ensures.advances.entries c.args.walk.now.references.items (subst (λ (s : Subject). WalkHeld s.terms c.args.walk.now) (sym c.session.view_is) c.requires)

pub returns-clause-stays : goal.returns-clause-stays
returns-clause-stays c = stays c.session.inside.workspace.now c.session.inside.crate_id.index c.session.inside.limits.depth c.session.inside.limits.handles c.session.inside.search.cx c.checked_in.new.cx c.session.inside.search.graph c.session.inside.search.graph _ c.session.view_is c.checked_in.ensures.advances.entries
