use Rattle.std.proofs.Common.{◌≡◌, ◌<◌, ℕ, slice_get, Some, nat_eq}
use Rattle.indexmap.specs.IndexMap.{ContainsKey}
use Rattle.search_graph.proofs.cache.find_on_stack.Given as goal

abbrev pub invariant-loop-goal : goal.invariant-loop-goal
invariant-loop-goal l = (i asked : ℕ) → i < l.goal-index → slice_get l.goals i ≡ Some asked → ContainsKey nat_eq l.positions asked → ⊥
