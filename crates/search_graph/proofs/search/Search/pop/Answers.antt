use Rattle.std.proofs.Common.{◌≡◌, ◌∙◌, nat_eq, length, arith}
use Rattle.indexmap.specs.IndexMap.{get}
use Rattle.search_graph.proofs.Places.{placed_pop}
use Rattle.search_graph.proofs.Ranges.{ranges_pop}
use Rattle.search_graph.proofs.EndedLists.{ended_list, one_less}
use Rattle.search_graph.proofs.search.Search.pop.Goals as goal

pub invariant_of-self-2 : goal.invariant_of-self-2
invariant_of-self-2 g c =
    let size : c.len.result ≡ length c.pop.new.self.items = c.len.ensures ∙ c.pop.new.self.ok.0 in
    let lower = one_less c.args.self.now.stack.items c.pop.new.self.items c.in_ok-entry.entry c.in_ok-entry.ensures.items in
    let listed = c.args.self.now.listed in
    let ended = ended_list c.args.self.now.entries.lists.items c.end.new.self.lists.items c.end.result c.end.ensures.lists (c.end.ensures.some.1 (omega (arith, lower, listed))) in
    let shorter = one_less c.args.self.now.entries.lists.items c.end.new.self.lists.items ended.0 ended.1 in
    record {
      placed = placed_pop c.pop.new.self.items c.in_ok-entry.entry (get nat_eq c.args.self.now.positions) (get nat_eq c.remove_place.new.positions) (rw (← c.in_ok-entry.ensures.items) c.args.self.now.placed) (rw size at c.remove_place.ensures.removed) (rw size at c.remove_place.ensures.kept);
      ranges = ranges_pop c.pop.new.self.items c.in_ok-entry.entry (rw (← c.in_ok-entry.ensures.items) c.args.self.now.ranges);
      listed = omega (arith, lower, shorter, listed);
    }

pub returns-clause-ended : goal.returns-clause-ended
returns-clause-ended g c = rw c.in-Some.is at c.end.ensures.lists
