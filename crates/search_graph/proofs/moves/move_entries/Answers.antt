use Rattle.std.proofs.Common.{◌≡◌, ◌∙◌, Some, slice_get, length, sym}
use Rattle.search_graph.proofs.Caches.{KeepsResults-push}
use Rattle.search_graph.proofs.Ranges.{at_end}
use Rattle.search_graph.proofs.MovedEntries.{moved_on}
use Rattle.search_graph.proofs.moves.move_entries.Goals as goal

pub move_entry-requires-clause-rests : goal.move_entry-requires-clause-rests
move_entry-requires-clause-rests g c =
    let inv = c.loop-entry.invariant in
    let there : slice_get c.loop-entry.left.items (length c.pop.new.self.items) ≡ Some c.in-Some.entry = rw c.in-Some.ensures.items (at_end c.pop.new.self.items c.in-Some.entry) in
    c.requires.rests (length c.pop.new.self.items) c.in-Some.entry (inv.rest (length c.pop.new.self.items) c.in-Some.entry there)

pub move_entry-requires-clause-same : goal.move_entry-requires-clause-same
move_entry-requires-clause-same g c = g.met.D.Cx.Cx.same_result _ _ (sym c.if-eq.ensures)

pub loop-entry-preserved-in-Continue-1 : goal.loop-entry-preserved-in-Continue-1
loop-entry-preserved-in-Continue-1 g c =
    let inv = c.loop-entry.invariant in
    let there : slice_get c.loop-entry.left.items (length c.pop.new.self.items) ≡ Some c.in-Some.entry = rw c.in-Some.ensures.items (at_end c.pop.new.self.items c.in-Some.entry) in
    record {
      goals = c.in_ok-move_entry.ensures.goals ∙ inv.goals;
      rest = λ place e at. inv.rest place e (rw c.in-Some.ensures.items (KeepsResults-push c.pop.new.self.items c.in-Some.entry place e at));
      moved = moved_on c.args.stack.now c.args.step_kind c.args.ended.now c.args.ended_reach c.args.asked c.args.left.items (length c.pop.new.self.items) c.in-Some.entry c.args.entries.now.lists.items c.loop-entry.entries.lists.items c.move_entry.new.entries.lists.items
          (inv.rest (length c.pop.new.self.items) c.in-Some.entry there) inv.moved c.in_ok-move_entry.ensures.moved;
    }

pub loop-entry-preserved : goal.loop-entry-preserved
loop-entry-preserved g c =
    let inv = c.loop-entry.invariant in
    record {
      goals = inv.goals;
      rest = λ place e at. inv.rest place e (rw c.in-Some.ensures.items (KeepsResults-push c.pop.new.self.items c.in-Some.entry place e at));
      moved = inv.moved;
    }
