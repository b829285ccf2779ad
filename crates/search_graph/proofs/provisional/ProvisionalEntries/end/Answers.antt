use Rattle.std.proofs.Common.{subst}
use Rattle.search_graph.specs.Provisional.{NoneIsLeft}
use Rattle.search_graph.proofs.Entries.{entry_stays}
use Rattle.search_graph.proofs.provisional.ProvisionalEntries.end.Goals as goal

pub invariant_of-self-else-is_empty : goal.invariant_of-self-else-is_empty
invariant_of-self-else-is_empty g c =
    record { unused = λ u head place e at. subst NoneIsLeft c.in_ok-ended.ensures.items (c.args.self.now.unused u) head place e (entry_stays c.pop.new.self.items c.in_ok-ended.ended head place e at) }
