use Rattle.search_graph.proofs.search.Search.find_entry.Goals as goal

pub returns-clause-found : goal.returns-clause-found
returns-clause-found g c = rw (← c.deref.ensures.value) c.find.ensures.found

pub returns-clause-none : goal.returns-clause-none
returns-clause-none g c = rw (← c.deref.ensures.value) c.find.ensures.none
