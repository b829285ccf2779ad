use Rattle.std.proofs.Common.{◌≡◌, ◌+◌, ◌*◌, ◌≤◌, [], drop, length}
use Rattle.type_terms.specs.Growth.{Grew}
use Rattle.text_tables.specs.Made.{parts_of}
use Rattle.text_tables.specs.TermCells.{behind_cells}
use Rattle.text_tables.specs.Views.{cells_of}
use Rattle.text_tables.specs.Stack.{stack_of, parts_in, trees_of_stack, StackHeld}
use Rattle.text_tables.proofs.lists.lower_cells.Given as goal

abbrev pub invariant-loop-cell : goal.invariant-loop-cell
invariant-loop-cell l = record {
  parts : parts_of (drop l.cell-index l.cells) (parts_in l.stack.items) ≡ parts_of l.cells [];
  trees : behind_cells (cells_of (drop l.cell-index l.cells)) (trees_of_stack l.cx.entries (stack_of l.stack.items)) ≡ behind_cells (cells_of l.cells) [];
  held : StackHeld l.cx.entries (stack_of l.stack.items);
  grew : Grew l.fn.cx l.cx;
  few : length l.cx.entries ≤ length l.fn.cx.entries + 2 * l.cell-index;
}
