use Rattle.std.proofs.Common.{sym, subst}
use Rattle.std.specs.Prelude.{IfOk}
use Rattle.sessions.specs.Checking.{HasJudged, HaveOwnNumbers}
use Rattle.sessions.specs.Promised.Subjects.{Subject}
use Rattle.sessions.proofs.ImplNumbers.{own-numbers}
use Rattle.sessions.proofs.Keeping.{session-rests}
use Rattle.explain_sessions.proofs.Staying.{kept-within, stays}
use Rattle.explain_sessions.proofs.explained.impls_overlap.Goals as goal

pub overlap_at-requires-clause-rest : goal.overlap_at-requires-clause-rest
overlap_at-requires-clause-rest c = session-rests c.session.inside.workspace.now c.session.inside.crate_id.index c.session.inside.limits.depth c.session.inside.search.cx c.session.inside.search.graph c.session.inside.search.cache c.session.invariant.session

pub overlap_at-requires-clause-numbers : goal.overlap_at-requires-clause-numbers
overlap_at-requires-clause-numbers c = subst HaveOwnNumbers (sym c.session.invariant.session.view.rules) (own-numbers c.session.inside.workspace.now c.session.inside.crate_id.index c.crates.ensures.numbered)

pub invariant_of-session : goal.invariant_of-session
invariant_of-session c = kept-within c.session.inside.workspace.now c.session.inside.crate_id.index c.session.inside.limits.depth c.session.inside.limits.handles c.session.inside.search.cx c.overlap_at.new.search.cx c.session.inside.search.graph c.overlap_at.new.search.graph c.session.inside.search.cache c.overlap_at.new.search.cache c.session.invariant
    (record { rest = c.overlap_at.ensures.rest; solving = c.overlap_at.ensures.solving; keeps = c.overlap_at.ensures.entries; limits = c.overlap_at.ensures.limits })

pub returns-clause-judged : goal.returns-clause-judged
returns-clause-judged c =
    let i = c.session.inside in
    subst (λ (s : Subject). IfOk c.overlap_at.result (HasJudged s c.args.later.index c.args.earlier.index)) c.session.view_is
    (c.overlap_at.ensures.judged i.workspace.now i.crate_id.index i.limits.depth c.session.invariant.session)

pub returns-clause-stays : goal.returns-clause-stays
returns-clause-stays c = stays c.session.inside.workspace.now c.session.inside.crate_id.index c.session.inside.limits.depth c.session.inside.limits.handles c.session.inside.search.cx c.overlap_at.new.search.cx c.session.inside.search.graph c.overlap_at.new.search.graph _ c.session.view_is c.overlap_at.ensures.entries
