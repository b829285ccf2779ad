use Rattle.std.proofs.Common.{rules, ◌≡◌, true}
use Rattle.sessions.specs.FixedGoals.{AreRefutedAsNoted}
use Rattle.sessions.proofs.FixedGoals.{rests-further, rests-now, numbers-stay, noted-later, always}
use Rattle.sessions.proofs.Keeping.{session-kept}
use Rattle.sessions.proofs.checked.overlaps_by_goals.Goals as goal

pub returns-then-branch-clause-judged : goal.returns-then-branch-clause-judged
returns-then-branch-clause-judged c = λ d n depth s noted.
    let b : c.in_ok-has_refuted_goal.field-0 ≡ true = search rules in
    c.in_ok-has_refuted_goal.ensures.passed d n depth s noted b

pub overlap_at-requires-clause-rest : goal.overlap_at-requires-clause-rest
overlap_at-requires-clause-rest c =
    rests-now c.args.search.now.graph.root_depth c.args.search.now.cx c.has_refuted_goal.new.search.cx c.has_refuted_goal.new.search.graph c.has_refuted_goal.new.search.cache c.has_refuted_goal.ensures.rests

pub overlap_at-requires-clause-numbers : goal.overlap_at-requires-clause-numbers
overlap_at-requires-clause-numbers c = numbers-stay c.args.search.now.cx c.has_refuted_goal.new.search.cx c.has_refuted_goal.ensures.rests.solving c.requires.numbers

pub returns-clause-rests : goal.returns-clause-rests
returns-clause-rests c =
    let mid = c.has_refuted_goal.new.search in
    let new = c.overlap_at.new.search in
    rests-further c.args.search.now.graph.root_depth c.args.search.now.cx mid.cx new.cx mid.graph new.graph mid.cache new.cache c.has_refuted_goal.ensures.rests
    (record { rest = c.overlap_at.ensures.rest; solving = c.overlap_at.ensures.solving; entries = c.overlap_at.ensures.entries; limits = c.overlap_at.ensures.limits })

pub returns-clause-noted : goal.returns-clause-noted
returns-clause-noted c = λ d n depth s noted.
    let mid = c.has_refuted_goal.new.search in
    let new = c.overlap_at.new.search in
    let later = noted-later d n mid.cx.interner.entries new.cx.interner.entries c.overlap_at.ensures.entries c.has_refuted_goal.new.answers (c.in_ok-has_refuted_goal.ensures.noted d n depth s noted) in
    always (AreRefutedAsNoted d n new.cx.interner.entries c.has_refuted_goal.new.answers) c.overlap_at.result later

pub returns-clause-judged : goal.returns-clause-judged
returns-clause-judged c = λ d n depth s noted.
    let mid = c.has_refuted_goal.new.search in
    c.overlap_at.ensures.judged d n depth
    (session-kept d n depth c.args.search.now.cx c.args.search.now.graph c.args.search.now.cache s mid.cx mid.graph mid.cache c.has_refuted_goal.ensures.rests.solving c.has_refuted_goal.ensures.rests.rest)
