use Rattle.std.proofs.Common.{length, ◌-◌, ◌≡◌, ◌<◌, ◌≤◌, ℕ, Some, slice_get}
use Rattle.search_graph.specs.Provisional.{IsServing}
use Rattle.search_graph.specs.declared.provisional.ProvisionalEntry.{ProvisionalEntry}
use Rattle.search_graph.proofs.provisional.find_among.Given as goal

abbrev pub invariant-loop-place : goal.invariant-loop-place
invariant-loop-place g l = record {
  within : l.place ≤ length l.entries;
  before : (i : ℕ) (e : ProvisionalEntry _ _) → slice_get l.entries i ≡ Some e → i < l.place → IsServing l.number l.input l.kind l.depth e → ⊥;
}

abbrev pub decreases-loop-place : goal.decreases-loop-place
decreases-loop-place g l = length l.entries - l.place
