use Rattle.std.proofs.Common.{length, ◌≡◌, ◌≤◌, ℕ, drop}
use Rattle.search_graph.specs.Stack.{kind_after}
use Rattle.search_graph.specs.Provisional.{IsServingAt}
use Rattle.search_graph.proofs.provisional.ProvisionalEntries.find.Given as goal

abbrev pub invariant-loop-head : goal.invariant-loop-head
invariant-loop-head g l = record {
  within : l.head ≤ length l.stack;
  kind : l.path_kind ≡ kind_after (drop l.head l.stack) l.fn.step_kind;
  above : (head place : ℕ) → l.head ≤ head → IsServingAt l.self.lists.items l.stack l.number l.input l.fn.step_kind l.depth head place → ⊥;
}

abbrev pub decreases-loop-head : goal.decreases-loop-head
decreases-loop-head g l = l.head
