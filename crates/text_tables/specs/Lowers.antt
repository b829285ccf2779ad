-- How a cell is lowered: the terms on the stack that are its parts are taken off, and its term is made of them.
use Rattle.std.specs.Prelude.{◌≡◌, List, ◌∷◌, map, Some, IsSome, IfOk}
use Rattle.std.specs.declared.result.Result.{Result}
use Rattle.type_terms.specs.Promised.Handles.{Entry, Keeps}
use Rattle.type_terms.specs.Terms.{Terms}
use Rattle.type_terms.specs.declared.Fault.{Fault}
use Rattle.type_terms.specs.declared.kinds.TyKind.{TyKind}
use Rattle.type_terms.specs.declared.kinds.TyKind.TheVariants as kinds
use Rattle.text_tables.specs.declared.cell.TermCell.{TermCell}
use Rattle.text_tables.specs.declared.cell.TermCell.TheVariants as cells
use Rattle.text_tables.specs.TermCells.{behind_cell}
use Rattle.text_tables.specs.Made.{parts_behind, CellHeld}
use Rattle.text_tables.specs.Views.{cell_of}
use Rattle.text_tables.specs.declared.stack.Lowered.{Lowered}
use Rattle.text_tables.specs.Stack.{stack_of, parts_in, part_of, tree_of, trees_of_stack, LoweredHeld, StackHeld}

-- The cell finds its parts on the stack, and the terms on the stack are the interner's.
pub record CellIsReady (cell : TermCell) (es : List Entry) (stack : List Lowered) : Type 0 where
  pub made : IsSome (parts_behind cell (parts_in stack))
  pub held : StackHeld es (stack_of stack)
  pub range : CellHeld cell

-- The term x was made from the stack S, and R is left.
pub record Lowers (cell : TermCell) (old new : List Entry) (S : List Lowered) (x : Lowered) (R : List Lowered) : Type 0 where
  pub parts : parts_behind cell (map part_of S) ≡ Some (part_of x ∷ map part_of R)
  pub trees : behind_cell (cell_of cell) (trees_of_stack old S) ≡ tree_of new x ∷ trees_of_stack new R
  pub term_held : LoweredHeld new x
  pub stack_held : StackHeld new R
  pub keeps : Keeps old new

-- A call made the term from the first list, whose last is on top, and left the second, or it failed.
abbrev pub LowersOrFails : TermCell → Terms → Terms → List Lowered → List Lowered → Result Lowered Fault → Type 0
LowersOrFails cell old new S R result = IfOk result (λ x. Lowers cell old.entries new.entries (stack_of S) x (stack_of R))

-- the kind of a type of one cell
abbrev pub IsLeafOf : TermCell → TyKind → Type 0
IsLeafOf cells.Bool k = k ≡ kinds.Bool
IsLeafOf cells.Char k = k ≡ kinds.Char
IsLeafOf cells.Str k = k ≡ kinds.Str
IsLeafOf cells.Never k = k ≡ kinds.Never
IsLeafOf (cells.Int w) k = k ≡ kinds.Int w
IsLeafOf (cells.Uint w) k = k ≡ kinds.Uint w
IsLeafOf (cells.Param i) k = k ≡ kinds.Param i
IsLeafOf (cells.Placeholder i) k = k ≡ kinds.Placeholder i
IsLeafOf (cells.Infer v) k = k ≡ kinds.Infer v
IsLeafOf _ k = ⊥
