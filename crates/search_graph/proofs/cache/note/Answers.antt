use Rattle.std.proofs.Common.{◌≡◌, ◌≤◌, ◌<◌, length, get_or, slice_get, Some, refl, arith}
use Rattle.std.proofs.lemmas.Option.{slice_get_read, get_or_from_slice_get}
use Rattle.search_graph.proofs.Noted.{noted_room, noted_set}
use Rattle.search_graph.proofs.cache.note.Goals as goal

pub loop-first-preserved : goal.loop-first-preserved
loop-first-preserved c = λ p n h. rw c.in_ok-push.ensures.items (noted_room _ _ p n (c.loop-first.invariant p n h))

pub returns-in_err-push-clause-others : goal.returns-in_err-push-clause-others
returns-in_err-push-clause-others c = λ p n h. rw c.in_err-push.ensures.items (c.loop-first.invariant p n h)

pub returns-then-place-index-clause-others : goal.returns-then-place-index-clause-others
returns-then-place-index-clause-others c = λ p n h.
    let within : c.args.number < length c.loop-first.first.items = omega arith in
    let at : slice_get c.loop-first.first.items c.args.number ≡ Some c.index.result.now = slice_get_read _ _ _ _ refl within c.index.ensures in
    let is = get_or_from_slice_get c.loop-first.first.items c.args.number c.index.result.now 0 at in
    let less = c.if-place-index.true in
    let older : c.args.place ≤ get_or c.loop-first.first.items c.args.number 0 = omega (arith, is, less) in
    (noted_set c.loop-first.first.items c.args.number c.args.place within older).0 p n (c.loop-first.invariant p n h)
