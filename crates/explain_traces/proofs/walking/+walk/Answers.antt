use Rattle.std.proofs.Common.{IfSome, sym, ap, subst, arith}
use Rattle.type_terms.specs.Kept.{args-held-later}
use Rattle.infer_table.specs.Growth.{grows-trans}
use Rattle.infer_table.proofs.Numbers.{goal-held-later}
use Rattle.explain_traces.specs.Walking.{GoalsHeld}
use Rattle.infer_table.specs.Goals.{GoalHeld}
use Rattle.goal_evaluator.proofs.Turns.{every-at}
use Rattle.explain_traces.specs.Frames.{IsWalked}
use Rattle.explain_traces.proofs.Steps.{walked-later}
use Rattle.explain_traces.proofs.Walks.{asked-further, asked-grown, walked-further, walked-asked, walked-grown, walked-back, walkable-asked, walkable-later, walkable-same, walkable-back, references-later}
use Rattle.explain_traces.proofs.walking.+walk.Goals as goal

pub visit_candidate-returns-in_err-tried-clause-again : goal.visit_candidate-returns-in_err-tried-clause-again
visit_candidate-returns-in_err-tried-clause-again g t c = walkable-asked g.H.GoalHandler.meaning c.args.search.now.graph c.try_next.new.search.graph c.args.search.now.cache c.try_next.new.search.cache c.args.search.now.cx c.try_next.new.search.cx c.args.table.now c.try_next.new.table c.args.walk.now.references.items c.requires.walkable c.try_next.ensures.again c.try_next.ensures.asked.entries c.try_next.ensures.table

pub visit_candidate-returns-in_default-clause-again : goal.visit_candidate-returns-in_default-clause-again
visit_candidate-returns-in_default-clause-again g t c =
    let k = c.try_next.ensures.asked in
    walkable-back g.H.GoalHandler.meaning c.args.search.now.graph c.try_next.new.search.graph c.args.search.now.cache c.try_next.new.search.cache c.args.search.now.cx c.try_next.new.search.cx c.args.table.now c.take_back.new.table c.args.walk.now.references.items c.args.walk.now.references.items c.requires.walkable c.try_next.ensures.again
    (references-later c.args.search.now.cx.interner.entries c.try_next.new.search.cx.interner.entries k.entries c.args.walk.now.references.items c.requires.walkable.references) k (c.take_back.ensures c.args.table.now c.snapshot-before.ensures c.try_next.ensures.grows)

pub visit_candidate-returns-in_default-clause-walked : goal.visit_candidate-returns-in_default-clause-walked
visit_candidate-returns-in_default-clause-walked g t c = walked-back g.H.GoalHandler.meaning c.args.search.now.graph c.try_next.new.search.graph c.args.search.now.cx c.try_next.new.search.cx c.args.table.now c.take_back.new.table c.try_next.ensures.asked (c.take_back.ensures c.args.table.now c.snapshot-before.ensures c.try_next.ensures.grows)

pub visit_candidate-walk_telling-requires : goal.visit_candidate-walk_telling-requires
visit_candidate-walk_telling-requires g t c κs within = (
  omega (arith, c.decreases),
  (
    within,
    (
      walkable-asked g.H.GoalHandler.meaning c.args.search.now.graph c.try_next.new.search.graph c.args.search.now.cache c.try_next.new.search.cache c.args.search.now.cx c.try_next.new.search.cx c.args.table.now c.try_next.new.table c.args.walk.now.references.items c.requires.walkable c.try_next.ensures.again c.try_next.ensures.asked.entries c.try_next.ensures.table,
      c.told_candidate-told.ensures c.try_next.new.search.cx.interner.entries (subst (λ o. IfSome o (λ x. IfSome x.opened (λ gs. GoalsHeld c.try_next.new.search.cx.interner.entries gs.items))) c.in-Some.is c.in_ok-tried.ensures.held),
    ),
  ),
)

pub visit_candidate-returns-in_err-walk_telling-clause-walked : goal.visit_candidate-returns-in_err-walk_telling-clause-walked
visit_candidate-returns-in_err-walk_telling-clause-walked g t c = walked-further g.H.GoalHandler.meaning c.args.search.now.graph c.try_next.new.search.graph c.walk_telling.new.search.graph c.args.search.now.cx c.try_next.new.search.cx c.walk_telling.new.search.cx c.args.table.now c.try_next.new.table c.walk_telling.new.table (record { asked = c.try_next.ensures.asked; grows = c.try_next.ensures.grows }) c.walk_telling.ensures.walked

pub visit_candidate-finish-requires : goal.visit_candidate-finish-requires
visit_candidate-finish-requires g t c = walked-later g.H.GoalHandler.meaning c.try_next.new.search.cx c.walk_telling.new.search.cx c.walk_telling.ensures.walked.asked.keeps c.in-Some.tried.frame (subst (λ o. IfSome o (λ x. IsWalked g.H.GoalHandler.meaning c.try_next.new.search.cx x.frame)) c.in-Some.is c.in_ok-tried.ensures.walked)

pub visit_candidate-returns-clause-again : goal.visit_candidate-returns-clause-again
visit_candidate-returns-clause-again g t c =
    let k = asked-further g.H.GoalHandler.meaning c.args.search.now.graph c.try_next.new.search.graph c.walk_telling.new.search.graph c.args.search.now.cx c.try_next.new.search.cx c.walk_telling.new.search.cx c.try_next.ensures.asked c.walk_telling.ensures.walked.asked in
    let e = c.take_back-2.ensures c.args.table.now c.snapshot-before.ensures (grows-trans c.args.table.now c.try_next.new.table c.walk_telling.new.table c.try_next.ensures.grows c.walk_telling.ensures.walked.grows) in
    let back = walkable-back g.H.GoalHandler.meaning c.args.search.now.graph c.walk_telling.new.search.graph c.args.search.now.cache c.walk_telling.new.search.cache c.args.search.now.cx c.walk_telling.new.search.cx c.args.table.now c.take_back-2.new.table c.args.walk.now.references.items c.walk_telling.new.walk.references.items c.requires.walkable c.walk_telling.ensures.again.askable c.walk_telling.ensures.again.references k e in
    walkable-later g.H.GoalHandler.meaning c.walk_telling.new.search.graph c.walk_telling.new.search.cache c.walk_telling.new.search.cx c.finish.new.cx c.take_back-2.new.table c.walk_telling.new.walk.references.items c.finish.ensures.keeps c.finish.ensures.ready back

pub visit_candidate-returns-clause-walked : goal.visit_candidate-returns-clause-walked
visit_candidate-returns-clause-walked g t c =
    let k = asked-further g.H.GoalHandler.meaning c.args.search.now.graph c.try_next.new.search.graph c.walk_telling.new.search.graph c.args.search.now.cx c.try_next.new.search.cx c.walk_telling.new.search.cx c.try_next.ensures.asked c.walk_telling.ensures.walked.asked in
    let e = c.take_back-2.ensures c.args.table.now c.snapshot-before.ensures (grows-trans c.args.table.now c.try_next.new.table c.walk_telling.new.table c.try_next.ensures.grows c.walk_telling.ensures.walked.grows) in
    walked-grown g.H.GoalHandler.meaning c.args.search.now.graph c.walk_telling.new.search.graph c.args.search.now.cx c.walk_telling.new.search.cx c.finish.new.cx c.args.table.now c.take_back-2.new.table (walked-back g.H.GoalHandler.meaning c.args.search.now.graph c.walk_telling.new.search.graph c.args.search.now.cx c.walk_telling.new.search.cx c.args.table.now c.take_back-2.new.table k e) c.finish.ensures.keeps

pub walk_candidates-returns-in_err-frame-clause-again : goal.walk_candidates-returns-in_err-frame-clause-again
walk_candidates-returns-in_err-frame-clause-again g t c = walkable-later g.H.GoalHandler.meaning c.args.search.now.graph c.args.search.now.cache c.args.search.now.cx c.begin.new.cx c.args.table.now c.args.walk.now.references.items c.begin.ensures.keeps c.begin.ensures.ready c.requires.walkable

pub walk_candidates-returns-in_err-frame-clause-walked : goal.walk_candidates-returns-in_err-frame-clause-walked
walk_candidates-returns-in_err-frame-clause-walked g t c = walked-asked g.H.GoalHandler.meaning c.args.search.now.graph c.args.search.now.graph c.args.search.now.cx c.begin.new.cx c.args.table.now (asked-grown g.H.GoalHandler.meaning c.args.search.now.graph c.args.search.now.cx c.begin.new.cx c.begin.ensures.keeps)

pub walk_candidates-loop-candidate-init : goal.walk_candidates-loop-candidate-init
walk_candidates-loop-candidate-init g t c = record {
  again = walkable-later g.H.GoalHandler.meaning c.args.search.now.graph c.args.search.now.cache c.args.search.now.cx c.begin.new.cx c.args.table.now c.args.walk.now.references.items c.begin.ensures.keeps c.begin.ensures.ready c.requires.walkable;
  walked = walked-asked g.H.GoalHandler.meaning c.args.search.now.graph c.args.search.now.graph c.args.search.now.cx c.begin.new.cx c.args.table.now (asked-grown g.H.GoalHandler.meaning c.args.search.now.graph c.args.search.now.cx c.begin.new.cx c.begin.ensures.keeps);
  frame = c.in_ok-frame.ensures.walked;
}

pub walk_candidates-visit_candidate-requires : goal.walk_candidates-visit_candidate-requires
walk_candidates-visit_candidate-requires g t c κs within =
    let inv = c.loop-candidate.invariant in (
      omega (arith, c.decreases),
      (
        within,
        (
          walkable-same g.H.GoalHandler.meaning c.loop-candidate.search.graph c.loop-candidate.search.cache c.loop-candidate.search.cx c.loop-candidate.table c.loop-candidate.walk.references.items c.is_over.new.walk.references.items inv.again (ap (λ r. r.items) c.is_over.ensures),
          (args-held-later c.args.search.now.cx.interner.entries c.loop-candidate.search.cx.interner.entries inv.walked.asked.entries c.args.opened.values.now c.requires.values, inv.frame),
        ),
      ),
    )

pub walk_candidates-returns-in_err-visited-clause-walked : goal.walk_candidates-returns-in_err-visited-clause-walked
walk_candidates-returns-in_err-visited-clause-walked g t c = walked-further g.H.GoalHandler.meaning c.args.search.now.graph c.loop-candidate.search.graph c.visit_candidate.new.search.graph c.args.search.now.cx c.loop-candidate.search.cx c.visit_candidate.new.search.cx c.args.table.now c.loop-candidate.table c.visit_candidate.new.table c.loop-candidate.invariant.walked c.visit_candidate.ensures.walked

pub walk_candidates-returns-in_default-clause-walked : goal.walk_candidates-returns-in_default-clause-walked
walk_candidates-returns-in_default-clause-walked g t c = walked-further g.H.GoalHandler.meaning c.args.search.now.graph c.loop-candidate.search.graph c.visit_candidate.new.search.graph c.args.search.now.cx c.loop-candidate.search.cx c.visit_candidate.new.search.cx c.args.table.now c.loop-candidate.table c.visit_candidate.new.table c.loop-candidate.invariant.walked c.visit_candidate.ensures.walked

pub walk_candidates-loop-candidate-preserved : goal.walk_candidates-loop-candidate-preserved
walk_candidates-loop-candidate-preserved g t c = record {
  again = c.visit_candidate.ensures.again;
  walked = walked-further g.H.GoalHandler.meaning c.args.search.now.graph c.loop-candidate.search.graph c.visit_candidate.new.search.graph c.args.search.now.cx c.loop-candidate.search.cx c.visit_candidate.new.search.cx c.args.table.now c.loop-candidate.table c.visit_candidate.new.table c.loop-candidate.invariant.walked c.visit_candidate.ensures.walked;
  frame = subst (λ o. IfSome o (IsWalked g.H.GoalHandler.meaning c.visit_candidate.new.search.cx)) c.in-Some.is c.in_ok-visited.ensures.frame;
}

pub walk_goal-returns-in_err-walk_candidates-clause-walked : goal.walk_goal-returns-in_err-walk_candidates-clause-walked
walk_goal-returns-in_err-walk_candidates-clause-walked g t c = walked-further g.H.GoalHandler.meaning c.args.search.now.graph c.meet_goal.new.search.graph c.walk_candidates.new.search.graph c.args.search.now.cx c.meet_goal.new.search.cx c.walk_candidates.new.search.cx c.args.table.now c.args.table.now c.walk_candidates.new.table (walked-asked g.H.GoalHandler.meaning c.args.search.now.graph c.meet_goal.new.search.graph c.args.search.now.cx c.meet_goal.new.search.cx c.args.table.now c.meet_goal.ensures.asked) c.walk_candidates.ensures.walked

pub walk_goal-returns-clause-again : goal.walk_goal-returns-clause-again
walk_goal-returns-clause-again g t c = walkable-same g.H.GoalHandler.meaning c.walk_candidates.new.search.graph c.walk_candidates.new.search.cache c.walk_candidates.new.search.cx c.walk_candidates.new.table c.walk_candidates.new.walk.references.items c.close.new.self.references.items c.walk_candidates.ensures.again (ap (λ r. r.items) c.close.ensures)

pub walk_goal-returns-clause-walked : goal.walk_goal-returns-clause-walked
walk_goal-returns-clause-walked g t c = walked-further g.H.GoalHandler.meaning c.args.search.now.graph c.meet_goal.new.search.graph c.walk_candidates.new.search.graph c.args.search.now.cx c.meet_goal.new.search.cx c.walk_candidates.new.search.cx c.args.table.now c.args.table.now c.walk_candidates.new.table (walked-asked g.H.GoalHandler.meaning c.args.search.now.graph c.meet_goal.new.search.graph c.args.search.now.cx c.meet_goal.new.search.cx c.args.table.now c.meet_goal.ensures.asked) c.walk_candidates.ensures.walked

pub walk_premises-settle-requires-clause-goal : goal.walk_premises-settle-requires-clause-goal
walk_premises-settle-requires-clause-goal g t c =
    let es = c.args.search.now.cx.interner.entries in
    let x = c.goal-item.result in
    let had : GoalHeld es x = subst (GoalHeld es) (sym c.goal-item.is) (every-at (GoalHeld es) c.args.traced.goals.now c.loop-goal.goal-index x c.requires.goals c.loop-goal-test.true) in
    goal-held-later es c.loop-goal.search.cx.interner.entries c.loop-goal.invariant.walked.asked.entries x had

pub walk_premises-returns-in_err-settle-clause-again : goal.walk_premises-returns-in_err-settle-clause-again
walk_premises-returns-in_err-settle-clause-again g t c = walkable-asked g.H.GoalHandler.meaning c.loop-goal.search.graph c.settle.new.search.graph c.loop-goal.search.cache c.settle.new.search.cache c.loop-goal.search.cx c.settle.new.search.cx c.loop-goal.table c.settle.new.table c.loop-goal.walk.references.items c.loop-goal.invariant.again c.settle.ensures.again c.settle.ensures.asked.entries c.settle.ensures.table

pub walk_premises-returns-in_err-settle-clause-walked : goal.walk_premises-returns-in_err-settle-clause-walked
walk_premises-returns-in_err-settle-clause-walked g t c = walked-further g.H.GoalHandler.meaning c.args.search.now.graph c.loop-goal.search.graph c.settle.new.search.graph c.args.search.now.cx c.loop-goal.search.cx c.settle.new.search.cx c.args.table.now c.loop-goal.table c.settle.new.table c.loop-goal.invariant.walked (record { asked = c.settle.ensures.asked; grows = c.settle.ensures.grows })

pub walk_premises-walk_goal-requires : goal.walk_premises-walk_goal-requires
walk_premises-walk_goal-requires g t c κs within =
    let es = c.args.search.now.cx.interner.entries in
    let x = c.goal-item.result in
    let had : GoalHeld es x = subst (GoalHeld es) (sym c.goal-item.is) (every-at (GoalHeld es) c.args.traced.goals.now c.loop-goal.goal-index x c.requires.goals c.loop-goal-test.true) in (
      omega (arith, c.decreases),
      (within, (walkable-asked g.H.GoalHandler.meaning c.loop-goal.search.graph c.settle.new.search.graph c.loop-goal.search.cache c.settle.new.search.cache c.loop-goal.search.cx c.settle.new.search.cx c.loop-goal.table c.settle.new.table c.loop-goal.walk.references.items c.loop-goal.invariant.again c.settle.ensures.again c.settle.ensures.asked.entries c.settle.ensures.table, goal-held-later es c.settle.new.search.cx.interner.entries (λ i e h. c.settle.ensures.asked.entries i e (c.loop-goal.invariant.walked.asked.entries i e h)) x had)),
    )

pub walk_premises-returns-in_err-premise-clause-walked : goal.walk_premises-returns-in_err-premise-clause-walked
walk_premises-returns-in_err-premise-clause-walked g t c = walked-further g.H.GoalHandler.meaning c.args.search.now.graph c.settle.new.search.graph c.walk_goal.new.search.graph c.args.search.now.cx c.settle.new.search.cx c.walk_goal.new.search.cx c.args.table.now c.settle.new.table c.walk_goal.new.table (walked-further g.H.GoalHandler.meaning c.args.search.now.graph c.loop-goal.search.graph c.settle.new.search.graph c.args.search.now.cx c.loop-goal.search.cx c.settle.new.search.cx c.args.table.now c.loop-goal.table c.settle.new.table c.loop-goal.invariant.walked (record { asked = c.settle.ensures.asked; grows = c.settle.ensures.grows })) c.walk_goal.ensures.walked

pub walk_premises-returns-in_err-push-clause-walked : goal.walk_premises-returns-in_err-push-clause-walked
walk_premises-returns-in_err-push-clause-walked g t c = walked-further g.H.GoalHandler.meaning c.args.search.now.graph c.settle.new.search.graph c.walk_goal.new.search.graph c.args.search.now.cx c.settle.new.search.cx c.walk_goal.new.search.cx c.args.table.now c.settle.new.table c.walk_goal.new.table (walked-further g.H.GoalHandler.meaning c.args.search.now.graph c.loop-goal.search.graph c.settle.new.search.graph c.args.search.now.cx c.loop-goal.search.cx c.settle.new.search.cx c.args.table.now c.loop-goal.table c.settle.new.table c.loop-goal.invariant.walked (record { asked = c.settle.ensures.asked; grows = c.settle.ensures.grows })) c.walk_goal.ensures.walked

pub walk_premises-returns-then-is_refused-clause-walked : goal.walk_premises-returns-then-is_refused-clause-walked
walk_premises-returns-then-is_refused-clause-walked g t c = walked-further g.H.GoalHandler.meaning c.args.search.now.graph c.settle.new.search.graph c.walk_goal.new.search.graph c.args.search.now.cx c.settle.new.search.cx c.walk_goal.new.search.cx c.args.table.now c.settle.new.table c.walk_goal.new.table (walked-further g.H.GoalHandler.meaning c.args.search.now.graph c.loop-goal.search.graph c.settle.new.search.graph c.args.search.now.cx c.loop-goal.search.cx c.settle.new.search.cx c.args.table.now c.loop-goal.table c.settle.new.table c.loop-goal.invariant.walked (record { asked = c.settle.ensures.asked; grows = c.settle.ensures.grows })) c.walk_goal.ensures.walked

pub walk_premises-loop-goal-preserved : goal.walk_premises-loop-goal-preserved
walk_premises-loop-goal-preserved g t c = record { again = c.walk_goal.ensures.again; walked = walked-further g.H.GoalHandler.meaning c.args.search.now.graph c.settle.new.search.graph c.walk_goal.new.search.graph c.args.search.now.cx c.settle.new.search.cx c.walk_goal.new.search.cx c.args.table.now c.settle.new.table c.walk_goal.new.table (walked-further g.H.GoalHandler.meaning c.args.search.now.graph c.loop-goal.search.graph c.settle.new.search.graph c.args.search.now.cx c.loop-goal.search.cx c.settle.new.search.cx c.args.table.now c.loop-goal.table c.settle.new.table c.loop-goal.invariant.walked (record { asked = c.settle.ensures.asked; grows = c.settle.ensures.grows })) c.walk_goal.ensures.walked }
