use Rattle.search_graph.proofs.cache.CachedResults.new.Goals as goal

pub invariant_of-result-clause-listed : goal.invariant_of-result-clause-listed
invariant_of-result-clause-listed g c = λ chain. rw c.new-3.ensures.items (c.new-2.ensures chain)
