use Rattle.std.proofs.Common.{◌≡◌}
use Rattle.search_graph.specs.Chain.{chain_of_entry}
use Rattle.search_graph.proofs.Chains.{IsAhead}
use Rattle.search_graph.proofs.cache.CachedResults.find_alike.Given as goal

abbrev pub invariant-loop : goal.invariant-loop
invariant-loop g l = IsAhead l.self.entries.items l.fn.chain (λ place e. (e.input ≡ l.input) × (chain_of_entry e ≡ l.fn.chain)) l.counter l.next
