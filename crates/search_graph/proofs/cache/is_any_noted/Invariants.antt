use Rattle.std.proofs.Common.{◌≡◌, ◌<◌, ℕ, slice_get, Some}
use Rattle.search_paths.specs.Nested.{IsWithin}
use Rattle.search_graph.specs.Chain.{IsNotedBy}
use Rattle.search_graph.proofs.cache.is_any_noted.Given as goal

abbrev pub invariant-loop-index : goal.invariant-loop-index
invariant-loop-index l = (i : ℕ) (e : ℕ × ℕ) → i < l.index → slice_get l.positions.entries i ≡ Some e → IsWithin l.range e.0 → IsNotedBy l.first l.place e.0 → ⊥
