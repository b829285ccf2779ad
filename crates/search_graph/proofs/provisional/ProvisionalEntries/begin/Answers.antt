use Rattle.std.proofs.Common.{is_ok}
use Rattle.search_graph.proofs.Entries.{none_begins}
use Rattle.search_graph.proofs.provisional.ProvisionalEntries.begin.Goals as goal

pub invariant_of-self : goal.invariant_of-self
invariant_of-self g c =
    record { unused = λ u. none_begins c.args.self.now.lists.items c.push.new.self.items c.new.result (is_ok c.push.result) c.push.ensures.items c.new.ensures.items (c.args.self.now.unused u) }
