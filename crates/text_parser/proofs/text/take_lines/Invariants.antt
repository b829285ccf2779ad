use Rattle.std.proofs.Common.{ℕ, ◌+◌, ◌≤◌, length, Result}
use Rattle.text_language.specs.Promised.Declarations.{Declarations}
use Rattle.text_language.specs.Text.{LinesGive, lines_of}
use Rattle.text_tables.specs.Tables.{declared, IsConsistent}
use Rattle.text_parser.specs.Lists.{HasRoom}
use Rattle.text_parser.proofs.text.take_lines.Given as goal

abbrev pub invariant-lines : goal.invariant-lines
invariant-lines l = record {
  agrees : IsConsistent l.tables;
  room : HasRoom (declared l.tables) (length l.rest);
  counted : 1 ≤ l.place;
  short : l.place + length l.rest ≤ 67108865;
  so_far : (r : Result Declarations (ℕ × ℕ)) → LinesGive (declared l.tables) l.place (lines_of l.rest) r → LinesGive (declared l.fn.tables) 1 (lines_of l.bytes) r;
}

abbrev pub decreases-lines : goal.decreases-lines
decreases-lines l = length l.rest
