use Rattle.std.proofs.Common.{◌≡◌, ℕ, ◌+◌, ◌-◌, length, get_or, None}
use Rattle.search_graph.proofs.newest.make_room.Given as goal

abbrev pub invariant-loop-newest : goal.invariant-loop-newest
invariant-loop-newest l = (other : ℕ) → get_or l.newest.items other None ≡ get_or l.fn.newest.items other None

abbrev pub decreases-loop-newest : goal.decreases-loop-newest
decreases-loop-newest l = l.number + 1 - length l.newest.items
