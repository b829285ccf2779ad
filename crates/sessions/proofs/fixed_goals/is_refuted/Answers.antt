use Rattle.std.proofs.Common.{Some, sym, ap, ◌∙◌}
use Rattle.sessions.proofs.FixedGoals.{rests-here, one-noted, noted-later, refuted-later}
use Rattle.sessions.proofs.fixed_goals.is_refuted.Goals as goal

pub returns-in-Some-clause-rests : goal.returns-in-Some-clause-rests
returns-in-Some-clause-rests c = rests-here c.args.search.now.cx c.args.search.now.graph c.args.search.now.cache c.requires.rest

pub returns-in-Some-clause-refuted : goal.returns-in-Some-clause-refuted
returns-in-Some-clause-refuted c = λ d n depth s h e. h c.args.goal (sym c.in-Some.ensures.value ∙ ap Some e)

pub returns-clause-noted : goal.returns-clause-noted
returns-clause-noted c = λ d n depth s h.
    let old = c.args.search.now.cx.interner.entries in
    let new = c.evaluate_fixed.new.search.cx.interner.entries in
    let k = c.evaluate_fixed.ensures.rests.entries in
    one-noted d n new c.args.answers.now.refuted c.insert.new.self c.args.goal c.in_ok-refuted.refuted c.in_ok-insert.ensures.updates.0
    (λ e. refuted-later d n old new k c.args.goal (c.in_ok-refuted.ensures.refuted d n depth s e)) (noted-later d n old new k c.args.answers.now h)

pub returns-clause-refuted : goal.returns-clause-refuted
returns-clause-refuted c = λ d n depth s h e. c.in_ok-refuted.ensures.refuted d n depth s e
