use Rattle.std.proofs.Common.{rules, ◌≡◌, Ok, None, sym, subst}
use Rattle.std.specs.Prelude.{IfSome}
use Rattle.sessions.specs.Checking.{IsFoundAt, IsJudgedAt, solving_in}
use Rattle.sessions.specs.Promised.Promises.{view_in}
use Rattle.sessions.proofs.PairChecks.{apart-passes, judged}
use Rattle.solver_graph.proofs.Growing.{limits-further}
use Rattle.sessions.proofs.Keeping.{limits-searched}
use Rattle.sessions.proofs.ShortCalls.{handed-by-terms}
use Rattle.sessions.proofs.checked.overlap_at.Goals as goal

pub returns-in_err-found-clause-rest : goal.returns-in_err-found-clause-rest
returns-in_err-found-clause-rest c = c.rest_laws.ensures.rest c.args.search.now.graph.root_depth c.args.search.now.cx c.intersection_at.new.cx c.args.search.now.graph c.args.search.now.cache c.requires.rest c.intersection_at.ensures.advances

pub returns-in_default-clause-rest : goal.returns-in_default-clause-rest
returns-in_default-clause-rest c = c.rest_laws.ensures.rest c.args.search.now.graph.root_depth c.args.search.now.cx c.intersection_at.new.cx c.args.search.now.graph c.args.search.now.cache c.requires.rest c.intersection_at.ensures.advances

pub returns-in_default-clause-solving : goal.returns-in_default-clause-solving
returns-in_default-clause-solving c = c.rest_laws.ensures.meaning c.args.search.now.cx c.intersection_at.new.cx c.requires.rest.ready c.intersection_at.ensures.advances

pub returns-in_default-clause-judged : goal.returns-in_default-clause-judged
returns-in_default-clause-judged c = λ d n depth s.
    let none : c.intersection_at.result ≡ Ok None = search rules in
    apart-passes d n depth c.args.search.now.cx c.args.search.now.graph c.args.search.now.cache s c.args.later.index c.args.earlier.index (c.intersection_at.ensures.apart none)

pub has_impossible_obligation-requires-clause-cache : goal.has_impossible_obligation-requires-clause-cache
has_impossible_obligation-requires-clause-cache c =
    c.forget_if_many.ensures.justified c.intersection_at.new.cx
    (c.rest_laws.ensures.rest c.args.search.now.graph.root_depth c.args.search.now.cx c.intersection_at.new.cx c.args.search.now.graph c.args.search.now.cache c.requires.rest c.intersection_at.ensures.advances).cached

pub returns-clause-judged : goal.returns-clause-judged
returns-clause-judged c = λ d n depth s.
    let old = c.args.search.now.cx.interner.entries in
    let new = c.intersection_at.new.cx.interner.entries in
    let at = subst (λ o. IfSome o (IsFoundAt old c.args.search.now.cx.handler.declarations c.args.later c.args.earlier new)) c.in-Some.is c.in_ok-found.ensures.found in
    subst (IsJudgedAt depth (view_in d n) n c.args.later.index c.args.earlier.index) (sym c.is_overlap.ensures)
    (judged d n depth c.args.search.now.cx c.args.search.now.graph c.args.search.now.cache s c.args.later c.args.earlier new c.in-Some.found at c.intersection_at.ensures.advances.ready.lawful c.ready_impls_are_written_well.ensures
    c.open_pair_goals_are_possible.ensures c.requires.rest.ready.lawful (solving_in c.intersection_at.new.cx) (c.rest_laws.ensures.meaning c.args.search.now.cx c.intersection_at.new.cx c.requires.rest.ready c.intersection_at.ensures.advances)
    c.requires.numbers c.in_ok-refused.refused c.in_ok-refused.ensures.impossible c.in_ok-refused.ensures.left_open)

pub returns-in_err-refused-clause-limits : goal.returns-in_err-refused-clause-limits
returns-in_err-refused-clause-limits c =
    limits-further c.args.search.now.cx c.intersection_at.new.cx c.has_impossible_obligation.new.search.cx c.intersection_at.ensures.advances.limits
    (limits-searched _ c.intersection_at.new.cx c.has_impossible_obligation.new.search.cx c.has_impossible_obligation.ensures.keeps)

pub returns-clause-limits : goal.returns-clause-limits
returns-clause-limits c =
    limits-further c.args.search.now.cx c.intersection_at.new.cx c.has_impossible_obligation.new.search.cx c.intersection_at.ensures.advances.limits
    (limits-searched _ c.intersection_at.new.cx c.has_impossible_obligation.new.search.cx c.has_impossible_obligation.ensures.keeps)

pub returns-in_err-found-clause-full : goal.returns-in_err-found-clause-full
returns-in_err-found-clause-full c = handed-by-terms c.intersection_at.new.cx c.from_residual.result c.from_residual.ensures.1 c.in_err-found.ensures.full
