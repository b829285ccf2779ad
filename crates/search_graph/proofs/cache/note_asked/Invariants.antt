use Rattle.std.proofs.Common.{◌≡◌, ◌<◌, ℕ, slice_get, Some}
use Rattle.search_graph.specs.Chain.{IsNotedBy, KeepsNoted}
use Rattle.search_graph.proofs.cache.note_asked.Given as goal

abbrev pub invariant-loop-goal : goal.invariant-loop-goal
invariant-loop-goal l = record {
  others : KeepsNoted l.fn.first.items l.first.items;
  own : IsNotedBy l.first.items l.place l.number;
  noted : (i n : ℕ) → i < l.goal-index → slice_get l.nested.goals.items i ≡ Some n → IsNotedBy l.first.items l.place n;
}
