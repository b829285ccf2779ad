use Rattle.std.proofs.Common.{sym, ◌∙◌, nat_eq}
use Rattle.indexmap.specs.IndexMap.{ContainsKey}
use Rattle.search_graph.proofs.Chains.{none_usable}
use Rattle.search_graph.proofs.cache.CachedResults.find.Goals as goal

pub returns-clause-none : goal.returns-clause-none
returns-clause-none g c = none_usable c.in_ok-found.found c.find_along-2.result c.args.self.now.entries.items c.args.self.now.asked.items (ContainsKey nat_eq c.args.positions.now) c.args.number c.args.input.now c.args.depth
    (sym c.is_some.ensures ∙ c.if-is_some.false) c.in_ok-found.ensures.none (rw (c.find_along.ensures.entries, c.find_along.ensures.asked) at c.find_along-2.ensures.none)
