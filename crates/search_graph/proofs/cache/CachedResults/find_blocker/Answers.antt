use Rattle.std.proofs.Common.{◌≡◌, ◌∙◌, ◌<◌, ◌≤◌, ◌-◌, ◌+◌, sym, ap, refl, arith, length, slice_get, Some}
use Rattle.std.proofs.lemmas.Bool.{ltb-false}
use Rattle.std.proofs.lemmas.Option.{slice_get_read, slice_get_within, slice_get_past}
use Rattle.indexmap.specs.IndexMap.{ContainsKey}
use Rattle.std.proofs.Common.{nat_eq}
use Rattle.search_graph.proofs.Chains.{reached_asked, reached_goal}
use Rattle.search_graph.proofs.Ranges.{absent_clear, apart_clear, apart_of, reached_inside, reached_count, reached_more, seen_next, seen_clear}
use Rattle.search_graph.proofs.Noted.{noted_clear}
use Rattle.search_graph.proofs.cache.CachedResults.find_blocker.Goals as goal
use Rattle.search_graph.proofs.cache.CachedResults.find_blocker.Goals.{else-round-gt0-via-then-round-gt0+else-contains_key, else-round-gt0-via-else-round-gt0}
use Rattle.type_terms.proofs.BooleanBasics.{true-false as true_not_false}

pub returns-in_default-clause-clear : goal.returns-in_default-clause-clear
returns-in_default-clause-clear g c = λ asked under on.
    let es = c.args.self.now.asked.items in
    let past : length c.deref.result.now ≤ c.args.place = ltb-false _ _ (sym c.in_default.ensures.lookup.0) in
    absent_clear es c.args.self.now.covered c.args.place (slice_get_past es c.args.place (rw c.deref.ensures.value at past)) asked under

pub returns-then-not-overlaps-clause-clear : goal.returns-then-not-overlaps-clause-clear
returns-then-not-overlaps-clause-clear g c =
    let es = c.args.self.now.asked.items in
    let e = c.in-Some.entry.now in
    let at : slice_get c.args.self.now.asked.items c.args.place ≡ Some c.in-Some.entry.now = ap (λ xs. slice_get xs c.args.place) (sym c.deref.ensures.value) ∙ slice_get_read c.deref.result.now _ c.args.place e refl c.in-Some.ensures.lookup.3.0 c.in-Some.ensures.lookup.1 in
    apart_clear es c.args.self.now.covered (ContainsKey nat_eq c.args.positions.now) c.args.on_stack c.requires.range c.args.place e at
    (apart_of c.overlaps.result e.nested_goals.span c.args.on_stack e.nested_goals.span refl c.if-not-overlaps.true c.overlaps.ensures.shares)

pub returns-then-not-is_any_noted-clause-clear : goal.returns-then-not-is_any_noted-clause-clear
returns-then-not-is_any_noted-clause-clear g c =
    let es = c.args.self.now.asked.items in
    let e = c.in-Some.entry.now in
    let at : slice_get c.args.self.now.asked.items c.args.place ≡ Some c.in-Some.entry.now = ap (λ xs. slice_get xs c.args.place) (sym c.deref.ensures.value) ∙ slice_get_read c.deref.result.now _ c.args.place e refl c.in-Some.ensures.lookup.3.0 c.in-Some.ensures.lookup.1 in
    let none = rw c.deref-2.ensures.value at (c.is_any_noted.ensures c.if-not-is_any_noted.true) in
    noted_clear c.args.self.now.first.items es c.args.self.now.covered c.args.self.now.noted (ContainsKey nat_eq c.args.positions.now) c.args.place e at none

pub index-entry-requires : goal.index-entry-requires
index-entry-requires g c =
    let es = c.args.self.now.asked.items in
    let e = c.in-Some.entry.now in
    let at : slice_get c.args.self.now.asked.items c.args.place ≡ Some c.in-Some.entry.now = ap (λ xs. slice_get xs c.args.place) (sym c.deref.ensures.value) ∙ slice_get_read c.deref.result.now _ c.args.place e refl c.in-Some.ensures.lookup.3.0 c.in-Some.ensures.lookup.1 in
    let inside = reached_inside es c.args.self.now.covered c.args.place (slice_get_within es c.args.place e at) c.loop-round.reached.keys c.loop-round.invariant.reached c.loop-round.round c.index-below.result.now c.index-below.ensures in
    omega (arith, inside)

pub returns-then-contains_key-clause-asked : goal.returns-then-contains_key-clause-asked
returns-then-contains_key-clause-asked g c =
    let es = c.args.self.now.asked.items in
    let below = c.index-below.result.now in
    let e = c.index-entry.result.now in
    let at : slice_get c.args.self.now.asked.items c.args.place ≡ Some c.in-Some.entry.now = ap (λ xs. slice_get xs c.args.place) (sym c.deref.ensures.value) ∙ slice_get_read c.deref.result.now _ c.args.place c.in-Some.entry.now refl c.in-Some.ensures.lookup.3.0 c.in-Some.ensures.lookup.1 in
    let inside : c.index-below.result.now < length c.args.self.now.asked.items = reached_inside es c.args.self.now.covered c.args.place (slice_get_within es c.args.place c.in-Some.entry.now at) c.loop-round.reached.keys c.loop-round.invariant.reached c.loop-round.round c.index-below.result.now c.index-below.ensures in
    let entry : slice_get c.args.self.now.asked.items c.index-below.result.now ≡ Some c.index-entry.result.now = slice_get_read _ _ _ _ refl inside c.index-entry.ensures in
    (reached_goal es c.args.place c.loop-round.round below e c.loop-round.reached.keys c.loop-round.invariant.reached c.index-below.ensures entry (omega arith), sym c.if-contains_key.ensures)

pub returns-in-Some-find_on_stack-clause-asked : goal.returns-in-Some-find_on_stack-clause-asked
returns-in-Some-find_on_stack-clause-asked g c =
    let es = c.args.self.now.asked.items in
    let below = c.index-below.result.now in
    let e = c.index-entry.result.now in
    let at : slice_get c.args.self.now.asked.items c.args.place ≡ Some c.in-Some.entry.now = ap (λ xs. slice_get xs c.args.place) (sym c.deref.ensures.value) ∙ slice_get_read c.deref.result.now _ c.args.place c.in-Some.entry.now refl c.in-Some.ensures.lookup.3.0 c.in-Some.ensures.lookup.1 in
    let inside : c.index-below.result.now < length c.args.self.now.asked.items = reached_inside es c.args.self.now.covered c.args.place (slice_get_within es c.args.place c.in-Some.entry.now at) c.loop-round.reached.keys c.loop-round.invariant.reached c.loop-round.round c.index-below.result.now c.index-below.ensures in
    let entry : slice_get c.args.self.now.asked.items c.index-below.result.now ≡ Some c.index-entry.result.now = slice_get_read _ _ _ _ refl inside c.index-entry.ensures in
    let one = rw c.deref-in-loop-round.ensures.value at c.in-Some-find_on_stack.ensures.one in
    (reached_asked es c.args.place c.loop-round.round below e c.loop-round.reached.keys c.loop-round.invariant.reached c.index-below.ensures entry one.0.0 c.in-Some-find_on_stack.number one.0.1, one.1)

pub loop-round-smaller : goal.loop-round-smaller
loop-round-smaller g c =
    let es = c.args.self.now.asked.items in
    let e = c.in-Some.entry.now in
    let at : slice_get c.args.self.now.asked.items c.args.place ≡ Some c.in-Some.entry.now = ap (λ xs. slice_get xs c.args.place) (sym c.deref.ensures.value) ∙ slice_get_read c.deref.result.now _ c.args.place e refl c.in-Some.ensures.lookup.3.0 c.in-Some.ensures.lookup.1 in
    let count = reached_count es c.args.self.now.covered c.args.place (slice_get_within es c.args.place e at) c.loop-round.reached.keys c.loop-round.invariant.reached c.len.ensures.unique in
    let shorter : length c.args.self.now.asked.items - (c.loop-round.round + 1) < length c.args.self.now.asked.items - c.loop-round.round = omega (arith, count, c.len.ensures.len) in
    shorter

pub loop-round-preserved : goal.loop-round-preserved
loop-round-preserved g c =
    let es = c.args.self.now.asked.items in
    let inv = c.loop-round.invariant in
    let below = c.index-below.result.now in
    let e = c.index-entry.result.now in
    let keys = c.loop-round.reached.keys in
    let at : slice_get c.args.self.now.asked.items c.args.place ≡ Some c.in-Some.entry.now = ap (λ xs. slice_get xs c.args.place) (sym c.deref.ensures.value) ∙ slice_get_read c.deref.result.now _ c.args.place c.in-Some.entry.now refl c.in-Some.ensures.lookup.3.0 c.in-Some.ensures.lookup.1 in
    let inside : c.index-below.result.now < length c.args.self.now.asked.items = reached_inside es c.args.self.now.covered c.args.place (slice_get_within es c.args.place c.in-Some.entry.now at) c.loop-round.reached.keys c.loop-round.invariant.reached c.loop-round.round c.index-below.result.now c.index-below.ensures in
    let entry : slice_get c.args.self.now.asked.items c.index-below.result.now ≡ Some c.index-entry.result.now = slice_get_read _ _ _ _ refl inside c.index-entry.ensures in
    record {
      reached = reached_more es c.args.place c.loop-round.round below e keys c.reach.new.reached.keys inv.reached c.index-below.ensures entry (rw c.deref-in-loop-round-2.ensures.value at c.reach.ensures.among);
      first = c.reach.ensures.stay 0 c.args.place inv.first;
      seen = seen_next es (ContainsKey nat_eq c.args.positions.now) c.args.on_stack keys c.reach.new.reached.keys c.loop-round.round below e inv.seen c.reach.ensures.stay c.index-below.ensures entry
          (λ later. elim c.else-round-gt0.branch [
            | else-round-gt0-via-then-round-gt0+else-contains_key w ↦ λ on. true_not_false (sym on ∙ sym w.contains_key.ensures ∙ w.if-contains_key.false)
            | else-round-gt0-via-else-round-gt0 w ↦ λ on. let before = w.if-round-gt0.false in omega (arith, before, later)
          ])
          (rw c.deref-in-loop-round.ensures.value at c.in_default-find_on_stack.ensures.none)
          (rw c.deref-in-loop-round-2.ensures.value at c.in_ok-reach.ensures.reached);
    }

pub returns-clause-clear : goal.returns-clause-clear
returns-clause-clear g c =
    seen_clear c.args.self.now.asked.items c.args.self.now.covered (ContainsKey nat_eq c.args.positions.now) c.args.on_stack c.requires.range c.args.place c.loop-round.reached.keys c.loop-round.invariant.first c.loop-round.round (omega (arith, c.len.ensures.len)) c.loop-round.invariant.seen
