-- The terms that a list of stored cells stands for, and how cells are appended to others.
use Rattle.std.specs.Prelude.{◌≡◌, List, [], ◌∷◌, ◌++◌, map, Some}
use Rattle.type_terms.specs.Promised.Trees.{Trees}
use Rattle.text_language.specs.Lowering.{Meanings}
use Rattle.text_names.specs.Resolved.{ResolvedCell}
use Rattle.text_tables.specs.TermCells.{behind_cells}
use Rattle.text_tables.specs.Made.{StackPart, parts_of, CellsHeld}
use Rattle.text_tables.specs.Views.{cells_of}
use Rattle.text_tables.specs.declared.cell.TermCell.{TermCell}
use Rattle.text_parser.specs.Making.{Makes, term_of}

-- put on a stack one after the other
abbrev pub pushed_on : {A : Type 0} → List A → List A → List A
pushed_on [] S = S
pushed_on (x ∷ xs) S = pushed_on xs (x ∷ S)

-- The cells put these terms, of these kinds, on any stack.
pub record PutsTrees (cs : List TermCell) (ts : List Trees) (xs : List StackPart) : Type 0 where
  pub held : CellsHeld cs
  pub trees : (S : List Trees) → behind_cells (cells_of cs) S ≡ pushed_on ts S
  pub parts : (S : List StackPart) → parts_of cs S ≡ Some (pushed_on xs S)

-- The cells that are stored for these were appended to others.
pub record AddsCells (e : Meanings) (cs : List ResolvedCell) (old new : List TermCell) : Type 0 where
  pub added : List TermCell
  pub behind : new ≡ old ++ added
  pub held : CellsHeld added
  pub parts : (S R : List StackPart) → Makes e 0 cs S R → parts_of added S ≡ Some R
  pub cells : (S R : List StackPart) → Makes e 0 cs S R → cells_of added ≡ map (term_of e) cs
