use Rattle.std.proofs.Common.{◌≡◌, [], ◌∷◌, ◌++◌, ◌∙◌, ap, arith, nat_eq, length}
use Rattle.indexmap.specs.IndexMap.{get}
use Rattle.search_graph.proofs.Places.{placed_push, pushed}
use Rattle.search_graph.proofs.Ranges.{ranges_push}
use Rattle.search_graph.proofs.EndedLists.{ended_list, one_less, not_refused}
use Rattle.search_graph.proofs.search.Search.begin.Goals as goal

pub invariant_of-self-2 : goal.invariant_of-self-2
invariant_of-self-2 g c =
    let es = c.args.self.now.stack.items in
    let items : c.push.new.self.items ≡ c.args.self.now.stack.items ++ c.args.entry ∷ [] = c.push.ensures.items ∙ pushed c.push.result _ _ (c.push.ensures.succeeds (omega (arith, c.in_ok-reserve.ensures.ok))) ∙ ap (λ z. z ++ c.args.entry ∷ []) c.in_ok-reserve.ensures.items in
    let size : c.len.result ≡ length c.args.self.now.stack.items = c.len.ensures ∙ c.in_ok-reserve.ensures.len ∙ c.args.self.now.stack.ok.0 in
    let begun = c.in_ok-begin.ensures.begun in
    let longer = one_less c.begin.new.self.lists.items c.args.self.now.entries.lists.items begun.0 begun.1 in
    let higher = one_less c.push.new.self.items es c.args.entry items in
    let listed = c.args.self.now.listed in
    let again = not_refused c.add_place.result c.add_place.ensures.again (λ e is. c.in_default.not-Err e is) in
    let added = not_refused c.add_place.result c.add_place.ensures.added (λ e is. c.in_default.not-Err e is) in
    record {
      placed = rw items (placed_push es c.args.entry (get nat_eq c.args.self.now.positions) (get nat_eq c.add_place.new.positions) c.args.self.now.placed again (rw size at added));
      ranges = rw items (ranges_push es c.args.entry c.args.self.now.ranges c.requires);
      listed = omega (arith, longer, higher, listed);
    }

pub invariant_of-self-in-Err : goal.invariant_of-self-in-Err
invariant_of-self-in-Err g c =
    let begun = c.in_ok-begin.ensures.begun in
    let longer = one_less c.begin.new.self.lists.items c.args.self.now.entries.lists.items begun.0 begun.1 in
    let ended = ended_list c.begin.new.self.lists.items c.end.new.self.lists.items c.end.result c.end.ensures.lists (c.end.ensures.some.1 (omega (arith, longer))) in
    let shorter = one_less c.begin.new.self.lists.items c.end.new.self.lists.items ended.0 ended.1 in
    let same : length c.reserve.new.self.items ≡ length c.args.self.now.stack.items = ap length c.in_ok-reserve.ensures.items in
    let listed = c.args.self.now.listed in
    record {
      placed = rw c.in_ok-reserve.ensures.items (λ n. c.in-Err.ensures.err n ∙ c.args.self.now.placed n);
      ranges = rw c.in_ok-reserve.ensures.items c.args.self.now.ranges;
      listed = omega (arith, longer, shorter, same, listed);
    }
