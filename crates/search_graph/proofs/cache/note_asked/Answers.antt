use Rattle.std.proofs.Common.{◌≡◌, Some, slice_get, get_or, arith}
use Rattle.std.proofs.lemmas.Option.{slice_get-get_or}
use Rattle.search_graph.proofs.Noted.{noted_next}
use Rattle.search_graph.proofs.cache.note_asked.Goals as goal

pub returns-in_err-note-2-clause-others : goal.returns-in_err-note-2-clause-others
returns-in_err-note-2-clause-others c = λ p n h. c.note-in-loop-goal.ensures.others p n (c.loop-goal.invariant.others p n h)

pub loop-goal-preserved : goal.loop-goal-preserved
loop-goal-preserved c =
    let inv = c.loop-goal.invariant in
    let keeps = c.note-in-loop-goal.ensures.others in
    let goals = c.args.nested.now.goals.items in
    let index = c.loop-goal.goal-index in
    let there : slice_get c.args.nested.now.goals.items c.loop-goal.goal-index ≡ Some (get_or c.args.nested.now.goals.items c.loop-goal.goal-index 0) =
    slice_get-get_or c.args.nested.now.goals.items c.loop-goal.goal-index 0 (rw c.deref-goal-items.ensures.value at c.loop-goal-test.true) in
    record {
      others = λ p n h. keeps p n (inv.others p n h);
      own = keeps c.args.place c.args.number inv.own;
      noted = noted_next c.loop-goal.first.items c.note-in-loop-goal.new.first.items c.args.place goals index (get_or goals index 0) keeps inv.noted there
          (rw c.deref-goal-items.ensures.value at c.in_ok-note-2.ensures.noted);
    }

pub returns-clause-noted : goal.returns-clause-noted
returns-clause-noted c =
    let inv = c.loop-goal.invariant in
    let ended = rw c.deref-goal-items.ensures.value at c.loop-goal-test.false in
    (inv.own, λ k d within. inv.noted k (get_or c.args.nested.now.goals.items k d) (omega (arith, within, ended)) (slice_get-get_or c.args.nested.now.goals.items k d within))
