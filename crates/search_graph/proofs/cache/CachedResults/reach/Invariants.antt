use Rattle.std.proofs.Common.{◌≡◌, ◌⊎◌, ℕ, slice_get, Some, ◌<◌}
use Rattle.search_graph.specs.Cache.{KeepsResults}
use Rattle.search_graph.proofs.Ranges.{IsSettled}
use Rattle.search_graph.proofs.cache.CachedResults.reach.Given as goal

abbrev pub invariant-loop-place : goal.invariant-loop-place
invariant-loop-place g l = record {
  stay : KeepsResults l.fn.reached.keys l.reached.keys;
  among : (j place : ℕ) → slice_get l.reached.keys j ≡ Some place → (slice_get l.fn.reached.keys j ≡ Some place) ⊎ ((i : ℕ) × (slice_get l.places i ≡ Some place));
  settled : (i place : ℕ) → i < l.place-index → slice_get l.places i ≡ Some place → IsSettled l.self.asked.items l.on_stack l.reached.keys place;
}
