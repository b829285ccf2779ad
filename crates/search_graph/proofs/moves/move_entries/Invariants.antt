use Rattle.std.proofs.Common.{◌≡◌, ℕ, Some, slice_get, length}
use Rattle.search_graph.specs.declared.provisional.ProvisionalEntry.{ProvisionalEntry}
use Rattle.search_graph.specs.Provisional.{AreMoved}
use Rattle.search_graph.proofs.moves.move_entries.Given as goal

abbrev pub invariant-loop-entry : goal.invariant-loop-entry
invariant-loop-entry g l = record {
  goals : length l.entries.lists.items ≡ length l.fn.entries.lists.items;
  rest : (place : ℕ) (e : ProvisionalEntry _ _) → slice_get l.left.items place ≡ Some e → slice_get l.fn.left.items place ≡ Some e;
  moved : AreMoved l.stack l.fn.left.items l.step_kind l.ended l.ended_reach l.asked l.fn.entries.lists.items l.entries.lists.items;
}

abbrev pub decreases-loop-entry : goal.decreases-loop-entry
decreases-loop-entry g l = length l.left.items
