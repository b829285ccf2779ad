use Rattle.std.proofs.Common.{nat_eq, sym, ◌∙◌}
use Rattle.indexmap.specs.IndexMap.{get}
use Rattle.search_graph.proofs.Places.{oldest_none}
use Rattle.std.proofs.lemmas.Option.{IfSome_then}
use Rattle.search_graph.proofs.search.Search.find_cycle.Goals as goal

pub returns-clause-found : goal.returns-clause-found
returns-clause-found g c = rw (← c.deref.ensures.value) c.find_cycle.ensures.found

pub returns-clause-none : goal.returns-clause-none
returns-clause-none g c = oldest_none c.find_cycle.result c.args.self.now.stack.items c.args.number c.args.input.now (get nat_eq c.args.self.now.positions) c.args.self.now.placed (rw (← c.deref.ensures.value) c.find_cycle.ensures.none)

pub returns-clause-place : goal.returns-clause-place
returns-clause-place g c = IfSome_then c.find_cycle.result c.find_cycle.ensures.place (λ cycle is. sym (c.args.self.now.placed c.args.number) ∙ is)
