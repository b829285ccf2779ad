use Rattle.std.proofs.Common.{inl, inr, arith}
use Rattle.std.proofs.lemmas.Option.{slice_get-get_or, slice_get_within}
use Rattle.search_graph.proofs.Ranges.{all_from, IsSettled, reach_insert, settled_next, apart_of}
use Rattle.search_graph.proofs.cache.CachedResults.reach.Goals as goal
use Rattle.search_graph.proofs.cache.CachedResults.reach.Goals.{then-overlaps+in_ok-insert, else-overlaps}

pub loop-place-preserved : goal.loop-place-preserved
loop-place-preserved g c =
    let es = c.args.self.now.asked.items in
    let inv = c.loop-place.invariant in
    let old = c.args.reached.now.keys in
    let keys = c.loop-place.reached.keys in
    let i = c.loop-place.place-index in
    let at = slice_get-get_or c.args.places.now i 0 c.loop-place-test.true in
    elim c.if-overlaps.branch [
      | then-overlaps+in_ok-insert w ↦ rw (w.reached-is, w.in_ok-insert.ensures.keys)
          (let next = reach_insert old keys c.args.places.now i _ inv.stay inv.among at in
          record { stay = next.0; among = next.1; settled = settled_next es c.args.on_stack keys _ c.args.places.now i _ next.2 inv.settled at (inl next.3) })
      | else-overlaps w ↦ rw w.reached-is (record { stay = inv.stay; among = inv.among; settled = settled_next es c.args.on_stack keys keys c.args.places.now i _ (λ p x h. h) inv.settled at (inr (λ e there. apart_of c.overlaps.result _ c.args.on_stack _ (c.span_of.ensures e there) w.if-overlaps.false c.overlaps.ensures.shares)) })
    ]

pub returns-clause-reached : goal.returns-clause-reached
returns-clause-reached g c = all_from (IsSettled c.args.self.now.asked.items c.args.on_stack c.loop-place.reached.keys) c.args.places.now (λ i place at. c.loop-place.invariant.settled i place (let within = slice_get_within c.args.places.now i place at in omega (arith, within)) at)
