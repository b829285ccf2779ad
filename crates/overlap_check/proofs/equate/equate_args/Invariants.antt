use Rattle.std.proofs.Common.{◌≡◌, List, length}
use Rattle.type_terms.specs.Promised.Handles.{ArgsHeld}
use Rattle.type_terms.specs.Kinds.{args_trees}
use Rattle.infer_table.specs.Solutions.{Binding, Equates, HasNoSolution}
use Rattle.infer_table.specs.Content.{content, Ready, Grows}
use Rattle.infer_table.specs.Unification.{table_trees}
use Rattle.infer_table.specs.Applied.{solved_in_turn}
use Rattle.type_terms.specs.Growth.{Grew}
use Rattle.overlap_check.proofs.equate.equate_args.Given as goal

abbrev pub invariant-pairs : goal.invariant-pairs
invariant-pairs l = record {
  ready : Ready l.cx.entries l.table;
  grows : Grows l.fn.table l.table;
  grew : Grew l.fn.cx l.cx;
  left_held : ArgsHeld l.fn.cx.entries l.left_rest;
  right_held : ArgsHeld l.fn.cx.entries l.right_rest;
  equates : (later : List Binding) → Equates (content l.cx.entries l.table.values) later (args_trees l.fn.cx.entries l.left_rest) (args_trees l.fn.cx.entries l.right_rest)
      → Equates (content l.fn.cx.entries l.fn.table.values) later (args_trees l.fn.cx.entries l.left) (args_trees l.fn.cx.entries l.right);
  never : HasNoSolution (content l.cx.entries l.table.values) (args_trees l.fn.cx.entries l.left_rest) (args_trees l.fn.cx.entries l.right_rest)
      → HasNoSolution (content l.fn.cx.entries l.fn.table.values) (args_trees l.fn.cx.entries l.left) (args_trees l.fn.cx.entries l.right);
  exact : solved_in_turn (table_trees l.cx.entries l.table) (args_trees l.fn.cx.entries l.left_rest) (args_trees l.fn.cx.entries l.right_rest)
      ≡ solved_in_turn (table_trees l.fn.cx.entries l.fn.table) (args_trees l.fn.cx.entries l.left) (args_trees l.fn.cx.entries l.right);
}

abbrev pub decreases-pairs : goal.decreases-pairs
decreases-pairs l = length l.left_rest
