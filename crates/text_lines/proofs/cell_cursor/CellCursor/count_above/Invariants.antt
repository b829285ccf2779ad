use Rattle.std.proofs.Common.{◌+◌, ◌≤◌, length}
use Rattle.text_lines.proofs.PartsOfCells.{Counted}
use Rattle.text_lines.proofs.cell_cursor.CellCursor.count_above.Given as goal

abbrev pub invariant-loop-rest : goal.invariant-loop-rest
invariant-loop-rest l = record {
  counted : Counted l.start l.self l.rest l.count;
  room : l.count + length l.rest ≤ l.end;
}

abbrev pub decreases-loop-rest : goal.decreases-loop-rest
decreases-loop-rest l = length l.rest
