-- The promises of the reader of lines.
use Rattle.std.specs.Prelude.{◌≡◌, List}
use Rattle.text_language.specs.Promised.Syntax.{Line}
use Rattle.text_language.specs.Tokens.{Token}
use Rattle.text_language.specs.Syntax.{spelling}
use Rattle.text_lines.specs.TypeViews.{cells_in}
use Rattle.text_lines.specs.Statement.{line_statement, line_cells}
use Rattle.text_lines.specs.Views.{statement_of}
use Rattle.text_lines.specs.declared.statement.LineRead.{LineRead}

-- This line was read: its statement, and the cells of its types one after another.
abbrev pub ReadsLine : Line → LineRead → Type 0
ReadsLine l r = (statement_of r.statement ≡ line_statement l) × (cells_in r.cells.items ≡ line_cells l)

-- the tokens spell the line that was read
abbrev pub SpellsLine : List Token → LineRead → Type 0
SpellsLine ts r = (l : Line) × (ts ≡ spelling l) × ReadsLine l r
