use Rattle.std.proofs.Common.{◌≡◌, List, length, drop}
use Rattle.type_terms.specs.Promised.Handles.{Keeps}
use Rattle.type_terms.specs.Kinds.{args_trees}
use Rattle.infer_table.specs.Solutions.{Binding, Equates, HasNoSolution}
use Rattle.infer_table.specs.Content.{content, Ready, Grows}
use Rattle.infer_table.specs.Unification.{table_trees}
use Rattle.infer_table.specs.Applied.{solved_in_turn}
use Rattle.goal_evaluator.proofs.apply.equate_values.Given as goal

abbrev pub invariant-loop-value : goal.invariant-loop-value
invariant-loop-value l = record {
  ready : Ready l.cx.entries l.table;
  grows : Grows l.fn.table l.table;
  keeps : Keeps l.fn.cx.entries l.cx.entries;
  limit : l.cx.limit ≡ l.fn.cx.limit;
  equates : (later : List Binding) → Equates (content l.cx.entries l.table.values) later (args_trees l.fn.cx.entries (drop (length l.yielded) l.left)) (args_trees l.fn.cx.entries (drop (length l.yielded) l.right))
      → Equates (content l.fn.cx.entries l.fn.table.values) later (args_trees l.fn.cx.entries l.left) (args_trees l.fn.cx.entries l.right);
  never : HasNoSolution (content l.cx.entries l.table.values) (args_trees l.fn.cx.entries (drop (length l.yielded) l.left)) (args_trees l.fn.cx.entries (drop (length l.yielded) l.right))
      → HasNoSolution (content l.fn.cx.entries l.fn.table.values) (args_trees l.fn.cx.entries l.left) (args_trees l.fn.cx.entries l.right);
  exact : solved_in_turn (table_trees l.cx.entries l.table) (args_trees l.fn.cx.entries (drop (length l.yielded) l.left)) (args_trees l.fn.cx.entries (drop (length l.yielded) l.right))
      ≡ solved_in_turn (table_trees l.fn.cx.entries l.fn.table) (args_trees l.fn.cx.entries l.left) (args_trees l.fn.cx.entries l.right);
}
