use Rattle.std.proofs.Common.{rules, ◌≡◌, true, sym, subst}
use Rattle.sessions.specs.FixedGoals.{AreGoalsAt, IsGoalAt}
use Rattle.sessions.proofs.FixedGoals.{rests-here, rests-further, rests-now, held-later, fixed-later, refuted-before, refuted-passes}
use Rattle.sessions.proofs.Keeping.{session-kept}
use Rattle.pair_checks.proofs.Lists.{each-here}
use Rattle.sessions.proofs.fixed_goals.has_refuted_goal.Goals as goal

pub returns-in_err-goals-clause-rests : goal.returns-in_err-goals-clause-rests
returns-in_err-goals-clause-rests c = rests-here c.args.search.now.cx c.args.search.now.graph c.args.search.now.cache c.requires.rest

pub loop-goal-init : goal.loop-goal-init
loop-goal-init c = record {
  rests = rests-here c.args.search.now.cx c.args.search.now.graph c.args.search.now.cache c.requires.rest;
  noted = λ d n depth s h. h;
}

pub is_refuted-requires-clause-rest : goal.is_refuted-requires-clause-rest
is_refuted-requires-clause-rest c =
    rests-now c.args.search.now.graph.root_depth c.args.search.now.cx c.loop-goal.search.cx c.loop-goal.search.graph c.loop-goal.search.cache c.loop-goal.invariant.rests

pub is_refuted-requires-clause-held : goal.is_refuted-requires-clause-held
is_refuted-requires-clause-held c =
    let cx = c.args.search.now.cx in
    let goals = subst (AreGoalsAt cx c.args.later.index c.args.earlier.index) (sym c.deref-goal-items.ensures.value) c.in_ok-goals.ensures in
    let at = each-here c.deref-goal-items.result.now c.loop-goal.goal-index c.goal-item.result c.goal-item.is c.loop-goal-test.true (IsGoalAt cx c.args.later.index c.args.earlier.index) goals in
    held-later cx.interner.entries c.loop-goal.search.cx.interner.entries c.loop-goal.invariant.rests.entries c.goal-item.result at.held

pub is_refuted-requires-clause-fixed : goal.is_refuted-requires-clause-fixed
is_refuted-requires-clause-fixed c =
    let cx = c.args.search.now.cx in
    let goals = subst (AreGoalsAt cx c.args.later.index c.args.earlier.index) (sym c.deref-goal-items.ensures.value) c.in_ok-goals.ensures in
    let at = each-here c.deref-goal-items.result.now c.loop-goal.goal-index c.goal-item.result c.goal-item.is c.loop-goal-test.true (IsGoalAt cx c.args.later.index c.args.earlier.index) goals in
    fixed-later cx.interner.entries c.loop-goal.search.cx.interner.entries c.loop-goal.invariant.rests.entries c.goal-item.result at.held at.fixed

pub returns-in_err-is_refuted-clause-rests : goal.returns-in_err-is_refuted-clause-rests
returns-in_err-is_refuted-clause-rests c =
    let mid = c.loop-goal.search in
    let new = c.is_refuted.new.search in
    rests-further c.args.search.now.graph.root_depth c.args.search.now.cx mid.cx new.cx mid.graph new.graph mid.cache new.cache c.loop-goal.invariant.rests c.is_refuted.ensures.rests

pub returns-then-branch-clause-rests : goal.returns-then-branch-clause-rests
returns-then-branch-clause-rests c =
    let mid = c.loop-goal.search in
    let new = c.is_refuted.new.search in
    rests-further c.args.search.now.graph.root_depth c.args.search.now.cx mid.cx new.cx mid.graph new.graph mid.cache new.cache c.loop-goal.invariant.rests c.is_refuted.ensures.rests

pub returns-then-branch-clause-noted : goal.returns-then-branch-clause-noted
returns-then-branch-clause-noted c = λ d n depth s h.
    let old = c.args.search.now in
    let mid = c.loop-goal.search in
    c.in_ok-is_refuted.ensures.noted d n depth (session-kept d n depth old.cx old.graph old.cache s mid.cx mid.graph mid.cache c.loop-goal.invariant.rests.solving c.loop-goal.invariant.rests.rest)
    (c.loop-goal.invariant.noted d n depth s h)

pub returns-then-branch-clause-passed : goal.returns-then-branch-clause-passed
returns-then-branch-clause-passed c = λ d n depth s h e.
    let old = c.args.search.now in
    let mid = c.loop-goal.search in
    let k = c.args.later.index in
    let j = c.args.earlier.index in
    let g = c.goal-item.result in
    let goals = subst (AreGoalsAt old.cx k j) (sym c.deref-goal-items.ensures.value) c.in_ok-goals.ensures in
    let at = each-here c.deref-goal-items.result.now c.loop-goal.goal-index g c.goal-item.is c.loop-goal-test.true (IsGoalAt old.cx k j) goals in
    let b : c.in_ok-is_refuted.field-0 ≡ true = search rules in
    refuted-passes d n depth old.cx old.graph old.cache s k j g at
    (refuted-before d n old.cx.interner.entries mid.cx.interner.entries c.loop-goal.invariant.rests.entries g at.held
    (c.in_ok-is_refuted.ensures.refuted d n depth (session-kept d n depth old.cx old.graph old.cache s mid.cx mid.graph mid.cache c.loop-goal.invariant.rests.solving c.loop-goal.invariant.rests.rest)
    (c.loop-goal.invariant.noted d n depth s h) b))

pub loop-goal-preserved : goal.loop-goal-preserved
loop-goal-preserved c =
    let old = c.args.search.now in
    let mid = c.loop-goal.search in
    let new = c.is_refuted.new.search in
    record {
      rests = rests-further old.graph.root_depth old.cx mid.cx new.cx mid.graph new.graph mid.cache new.cache c.loop-goal.invariant.rests c.is_refuted.ensures.rests;
      noted = λ d n depth s h.
          c.in_ok-is_refuted.ensures.noted d n depth (session-kept d n depth old.cx old.graph old.cache s mid.cx mid.graph mid.cache c.loop-goal.invariant.rests.solving c.loop-goal.invariant.rests.rest)
          (c.loop-goal.invariant.noted d n depth s h);
    }

pub returns-clause-rests : goal.returns-clause-rests
returns-clause-rests c = c.loop-goal.invariant.rests
