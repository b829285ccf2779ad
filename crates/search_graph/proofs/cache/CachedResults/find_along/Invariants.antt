use Rattle.std.proofs.Common.{◌≡◌, nat_eq}
use Rattle.indexmap.specs.IndexMap.{ContainsKey}
use Rattle.search_graph.proofs.Chains.{IsAhead, IsUsableIn}
use Rattle.search_graph.proofs.cache.CachedResults.find_along.Given as goal

abbrev pub invariant-loop : goal.invariant-loop
invariant-loop g l = record {
  entries : l.self.entries ≡ l.fn.self.entries;
  asked : l.self.asked ≡ l.fn.self.asked;
  goals : l.self.goals ≡ l.fn.self.goals;
  ahead : IsAhead l.fn.self.entries.items l.fn.chain (IsUsableIn l.fn.chain l.fn.self.asked.items (ContainsKey nat_eq l.positions) l.input l.depth) l.counter l.next;
}
