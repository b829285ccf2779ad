use Rattle.std.proofs.Common.{subst}
use Rattle.std.specs.Prelude.{IfOk, ℕ}
use Rattle.sessions.specs.TypeTerms.Promised.Worlds.{World}
use Rattle.sessions.specs.Checking.{rules_in}
use Rattle.sessions.specs.Later.{section_headers}
use Rattle.sessions.specs.Promised.Promises.{view_in}
use Rattle.sessions.specs.Promised.Subjects.{Subject}
use Rattle.explain_sessions.specs.Causes.{IsCauseAt}
use Rattle.explain_sessions.proofs.Rests.{rests-advanced}
use Rattle.sessions.proofs.Keeping.{session-rests}
use Rattle.explain_sessions.proofs.Staying.{kept-within, stays}
use Rattle.explain_sessions.proofs.explained.explain_breaking.Goals as goal

pub breaking_cause-requires-clause-ready : goal.breaking_cause-requires-clause-ready
breaking_cause-requires-clause-ready c = c.session.invariant.session.rest.ready

pub breaking_cause-requires-clause-text : goal.breaking_cause-requires-clause-text
breaking_cause-requires-clause-text c = c.session.invariant.session.text

pub invariant_of-session : goal.invariant_of-session
invariant_of-session c = kept-within c.session.inside.workspace.now c.session.inside.crate_id.index c.session.inside.limits.depth c.session.inside.limits.handles c.session.inside.search.cx c.breaking_cause.new.cx c.session.inside.search.graph c.session.inside.search.graph c.session.inside.search.cache c.session.inside.search.cache c.session.invariant (rests-advanced c.session.inside.search.graph.root_depth c.session.inside.search.cx c.breaking_cause.new.cx c.session.inside.search.graph c.session.inside.search.cache (session-rests c.session.inside.workspace.now c.session.inside.crate_id.index c.session.inside.limits.depth c.session.inside.search.cx c.session.inside.search.graph c.session.inside.search.cache c.session.invariant.session) c.breaking_cause.ensures.advances)

pub returns-clause-cause : goal.returns-clause-cause
returns-clause-cause c =
    let i = c.session.inside in
    let hs = section_headers i.workspace.now c.args.section in
    subst (λ (s : Subject). IfOk c.breaking_cause.result (IsCauseAt (view_in s.declarations s.of_crate) s.of_crate (section_headers s.declarations c.args.section) c.args.number)) c.session.view_is
    (subst (λ (V : World). IfOk c.breaking_cause.result (IsCauseAt V i.crate_id.index hs c.args.number)) c.session.invariant.session.view.rules
    (subst (λ (k : ℕ). IfOk c.breaking_cause.result (IsCauseAt (rules_in i.search.cx) k hs c.args.number)) c.session.invariant.session.view.local c.breaking_cause.ensures.cause))

pub returns-clause-stays : goal.returns-clause-stays
returns-clause-stays c = stays c.session.inside.workspace.now c.session.inside.crate_id.index c.session.inside.limits.depth c.session.inside.limits.handles c.session.inside.search.cx c.breaking_cause.new.cx c.session.inside.search.graph c.session.inside.search.graph _ c.session.view_is c.breaking_cause.ensures.advances.entries
