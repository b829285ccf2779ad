use Rattle.std.proofs.Common.{◌≡◌, ◌-◌, length, slice_get, Some, nat_eq}
use Rattle.indexmap.specs.IndexMap.{ContainsKey}
use Rattle.search_graph.proofs.Chains.{IsReached}
use Rattle.search_graph.proofs.Ranges.{AreSeen}
use Rattle.search_graph.proofs.cache.CachedResults.find_blocker.Given as goal

abbrev pub invariant-loop-round : goal.invariant-loop-round
invariant-loop-round g l = record {
  reached : IsReached l.self.asked.items l.place l.reached.keys;
  first : slice_get l.reached.keys 0 ≡ Some l.place;
  seen : AreSeen l.self.asked.items (ContainsKey nat_eq l.positions) l.on_stack l.reached.keys l.round;
}

abbrev pub decreases-loop-round : goal.decreases-loop-round
decreases-loop-round g l = length l.self.asked.items - l.round
