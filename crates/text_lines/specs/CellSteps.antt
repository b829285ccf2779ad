-- The effect of the methods of the cursor over cells.
use Rattle.std.specs.Prelude.{◌≡◌, ℕ, List, [], ◌∷◌, Option, Some, None}
use Rattle.std.specs.Borrow.{Bor}
use Rattle.text_lines.specs.Cells as cell
use Rattle.text_lines.specs.TypeViews.{cell_of}
use Rattle.text_lines.specs.declared.cell.Cell.{Cell}
use Rattle.text_lines.specs.Back.{begins, down_to}

-- The last cell was taken, with what is inside it.
abbrev pub TakesPart : Option Cell → List cell.Cell → List cell.Cell → Type 0
TakesPart None old new = old ≡ []
TakesPart (Some c) old new = (body : List cell.Cell) × (old ≡ cell_of c ∷ body) × (new ≡ down_to (begins old) body)

-- A name was taken, or the last cell is none.
abbrev pub TakesNamed : Option (Bor (List ℕ) × ℕ) → List cell.Cell → List cell.Cell → Type 0
TakesNamed None old new = (n : List ℕ) (start : ℕ) (body : List cell.Cell) → old ≡ cell.named_cell n start ∷ body → ⊥
TakesNamed (Some (n, start)) old new = old ≡ cell.named_cell n.now start ∷ new
