-- A line that was read, after the declarations of the lines before it. It is judged by the declarations, and added if it has no fault.
use Rattle.std.specs.Prelude.{◌≡◌, ◌≤◌, length, None, Option}
use Rattle.std.specs.Option.{option_map}
use Rattle.text_language.specs.Promised.Syntax.{Line}
use Rattle.text_language.specs.Promised.Declarations.{Declarations}
use Rattle.text_language.specs.Faults.{fault_of}
use Rattle.text_language.specs.Adding.{added}
use Rattle.text_lines.specs.Lines.{ReadsLine}
use Rattle.text_lines.specs.declared.statement.LineRead.{LineRead}
use Rattle.text_names.specs.FaultNumbers.{fault_number}
use Rattle.text_names.specs.Judged.{HandsOn}
use Rattle.text_names.specs.LineFound.{FindsLine}
use Rattle.text_names.specs.declared.fault.FaultKind.{FaultKind}
use Rattle.text_names.specs.declared.judge.JudgedLine.{JudgedLine}
use Rattle.text_names.specs.declared.line.LineFound.{LineFound}
use Rattle.text_tables.specs.Numbered.{IsFew}
use Rattle.text_tables.specs.Tables.{declared, IsConsistent}
use Rattle.text_tables.specs.declared.tables.Tables.{Tables}
use Rattle.text_tables.specs.declared.tables.TheConstants.{ENTRY_LIMIT}
use Rattle.text_parser.specs.Sights.{sight_at}
use Rattle.text_parser.specs.declared.lines.TheConstants.{TEXT_LIMIT}

-- Some line was read.
abbrev pub IsRead : LineRead → Type 0
IsRead read = (l : Line) × ReadsLine l read

-- This fault was found, or none. Whichever line was read, it has that fault.
abbrev pub FindsFault : Declarations → LineRead → Option FaultKind → Type 0
FindsFault d read found = (l : Line) → ReadsLine l read → option_map fault_number found ≡ fault_of d l

-- A line was read, and whichever it was, it has no fault.
abbrev pub IsFaultless : Declarations → LineRead → Type 0
IsFaultless d read = IsRead read × ((l : Line) → ReadsLine l read → fault_of d l ≡ None)

-- The declarations are then e. Whichever line was read, e is the declarations with this line.
abbrev pub AddsLine : Declarations → LineRead → Declarations → Type 0
AddsLine d read e = (l : Line) → ReadsLine l read → e ≡ added d l

-- This was found of the line that was read, its names looked up in what is declared before it and in what it declares itself.
abbrev pub IsFoundOf : Declarations → LineRead → LineFound → Type 0
IsFoundOf d read found = FindsLine (sight_at d read) read found

-- The tables agree with what is declared so far, and have room for a line. A line without a fault was read, of no more cells than a text
-- has bytes, and this was found of it.
pub record IsJudged (tables : Tables) (read : LineRead) (line : LineFound) : Type 0 where
  pub agrees : IsConsistent tables
  pub few : IsFew (declared tables) ENTRY_LIMIT
  pub faultless : IsFaultless (declared tables) read
  pub short : length read.cells.items ≤ TEXT_LIMIT
  pub found : IsFoundOf (declared tables) read line

-- If the line has no fault, this was found of it.
abbrev pub HandsOnFound : Declarations → LineRead → JudgedLine → Type 0
HandsOnFound d read judged = HandsOn (sight_at d read) read judged
