use Rattle.search_graph.proofs.search.Search.move_entries.Goals as goal

pub returns-clause-moved : goal.returns-clause-moved
returns-clause-moved g c = rw c.deref.ensures.value at c.move_entries.ensures.moved
