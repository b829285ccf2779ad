use Rattle.sessions.proofs.Keeping.{session-rests}
use Rattle.explain_sessions.proofs.Staying.{kept-within, stays}
use Rattle.explain_sessions.proofs.explained.explain_supertrait.Goals as goal

pub walk_supertrait-requires-clause-rest : goal.walk_supertrait-requires-clause-rest
walk_supertrait-requires-clause-rest c = session-rests c.session.inside.workspace.now c.session.inside.crate_id.index c.session.inside.limits.depth c.session.inside.search.cx c.session.inside.search.graph c.session.inside.search.cache c.session.invariant.session

pub walk_supertrait-requires-clause-applied : goal.walk_supertrait-requires-clause-applied
walk_supertrait-requires-clause-applied c = c.impls_apply.ensures c.session.inside.workspace.now c.session.invariant.session.text c.session.inside.crate_id.index c.session.inside.search.cx.interner.entries c.session.inside.search.cx.handler.declarations c.session.invariant.session.solving

pub invariant_of-session : goal.invariant_of-session
invariant_of-session c = kept-within c.session.inside.workspace.now c.session.inside.crate_id.index c.session.inside.limits.depth c.session.inside.limits.handles c.session.inside.search.cx c.walk_supertrait.new.search.cx c.session.inside.search.graph c.walk_supertrait.new.search.graph c.session.inside.search.cache c.walk_supertrait.new.search.cache c.session.invariant c.walk_supertrait.ensures.rests

pub returns-clause-stays : goal.returns-clause-stays
returns-clause-stays c = stays c.session.inside.workspace.now c.session.inside.crate_id.index c.session.inside.limits.depth c.session.inside.limits.handles c.session.inside.search.cx c.walk_supertrait.new.search.cx c.session.inside.search.graph c.walk_supertrait.new.search.graph _ c.session.view_is c.walk_supertrait.ensures.rests.keeps
