use Rattle.std.proofs.Common.{◌+◌, ◌-◌, length}
use Rattle.search_graph.specs.Chain.{KeepsNoted}
use Rattle.search_graph.proofs.cache.note.Given as goal

abbrev pub invariant-loop-first : goal.invariant-loop-first
invariant-loop-first l = KeepsNoted l.fn.first.items l.first.items

abbrev pub decreases-loop-first : goal.decreases-loop-first
decreases-loop-first l = l.number + 1 - length l.first.items
