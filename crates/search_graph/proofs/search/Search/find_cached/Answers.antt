use Rattle.std.proofs.Common.{nat_eq, IsSome, subst, sym}
use Rattle.indexmap.specs.IndexMap.{ContainsKey}
use Rattle.search_graph.specs.Stack.{place_of}
use Rattle.search_graph.proofs.Chains.{unusable_over, usable_over}
use Rattle.search_graph.proofs.Ranges.{stack_in_range}
use Rattle.search_graph.proofs.search.Search.find_cached.Goals as goal

pub returns-clause-none : goal.returns-clause-none
returns-clause-none g c = unusable_over c.find.result c.args.cache.now.entries.items c.args.cache.now.asked.items (ContainsKey nat_eq c.args.self.now.positions) (λ asked. IsSome (place_of c.args.self.now.stack.items asked)) c.args.number c.args.input.now c.args.depth (λ n. subst IsSome (c.args.self.now.placed n)) c.find.ensures.none

pub find-requires : goal.find-requires
find-requires g c = record { range = λ n on. rw c.span.ensures (stack_in_range c.args.self.now.stack.items c.args.self.now.ranges n (subst IsSome (c.args.self.now.placed n) on)) }

pub returns-clause-found : goal.returns-clause-found
returns-clause-found g c = usable_over c.find.result c.args.cache.now.entries.items c.args.cache.now.asked.items (ContainsKey nat_eq c.args.self.now.positions) (λ asked. IsSome (place_of c.args.self.now.stack.items asked)) c.args.number c.args.input.now c.args.depth (λ n. subst IsSome (sym (c.args.self.now.placed n))) c.find.ensures.found
