-- What the names of a line are looked up in.
use Rattle.std.specs.Prelude.{◌≡◌}
use Rattle.text_language.specs.Promised.Syntax.{Line}
use Rattle.text_language.specs.Promised.Declarations.{Declarations}
use Rattle.text_language.specs.Promised.Faults.{with_own}
use Rattle.text_language.specs.Uses.{params_of}
use Rattle.text_lines.specs.Lines.{ReadsLine}
use Rattle.text_lines.specs.Views.{statement_of}
use Rattle.text_lines.specs.declared.statement.LineRead.{LineRead}
use Rattle.text_names.specs.Machine.{Sight, seen_items, params}
use Rattle.text_parser.specs.BareLines.{bare_line}
use Rattle.text_parser.specs.declared.line_tables.LineTables.{LineTables}

abbrev pub sight_of : LineTables → Sight
sight_of t = record { before = t.before; line = bare_line (statement_of t.statement.now) }

-- what the names of a line that was read are looked up in, after these declarations
abbrev pub sight_at : Declarations → LineRead → Sight
sight_at d read = record { before = d; line = bare_line (statement_of read.statement) }

-- some line was read
abbrev pub HasReadLine : LineRead → Type 0
HasReadLine read = (l : Line) × ReadsLine l read

-- Names are looked up in what is declared before the line that was read, and in what that line declares itself.
pub record IsSightOfRead (d : Declarations) (read : LineRead) (v : Sight) : Type 0 where
  pub before : v.before ≡ d
  pub line : v.line ≡ bare_line (statement_of read.statement)
  pub items : (l : Line) → ReadsLine l read → seen_items v ≡ with_own d l
  pub params : (l : Line) → ReadsLine l read → params v ≡ params_of l
