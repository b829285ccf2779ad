use Rattle.std.proofs.Common.{sym, subst}
use Rattle.sessions.specs.TextLanguage.Promised.Declarations.{Question}
use Rattle.sessions.specs.Promised.Subjects.{Subject, AsksRefutation}
use Rattle.sessions.proofs.Keeping.{session-rests}
use Rattle.explain_sessions.proofs.Staying.{kept-within, stays}
use Rattle.explain_sessions.proofs.explained.explain_refutation.Goals as goal

pub walk_refutation-requires-clause-rest : goal.walk_refutation-requires-clause-rest
walk_refutation-requires-clause-rest c = session-rests c.session.inside.workspace.now c.session.inside.crate_id.index c.session.inside.limits.depth c.session.inside.search.cx c.session.inside.search.graph c.session.inside.search.cache c.session.invariant.session

pub walk_refutation-requires-clause-question : goal.walk_refutation-requires-clause-question
walk_refutation-requires-clause-question c =
    let asks = subst (λ (s : Subject). (q : Question) × AsksRefutation s.declarations s.of_crate c.args.number q) (sym c.session.view_is) c.requires in
    (asks.0, asks.1.asks.question)

pub invariant_of-session : goal.invariant_of-session
invariant_of-session c = kept-within c.session.inside.workspace.now c.session.inside.crate_id.index c.session.inside.limits.depth c.session.inside.limits.handles c.session.inside.search.cx c.walk_refutation.new.search.cx c.session.inside.search.graph c.walk_refutation.new.search.graph c.session.inside.search.cache c.walk_refutation.new.search.cache c.session.invariant c.walk_refutation.ensures.rests

pub returns-clause-stays : goal.returns-clause-stays
returns-clause-stays c = stays c.session.inside.workspace.now c.session.inside.crate_id.index c.session.inside.limits.depth c.session.inside.limits.handles c.session.inside.search.cx c.walk_refutation.new.search.cx c.session.inside.search.graph c.walk_refutation.new.search.graph _ c.session.view_is c.walk_refutation.ensures.rests.keeps
