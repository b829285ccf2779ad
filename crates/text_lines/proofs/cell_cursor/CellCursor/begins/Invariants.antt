use Rattle.std.proofs.Common.{◌≡◌, length}
use Rattle.text_lines.specs.Back.{begins}
use Rattle.text_lines.proofs.cell_cursor.CellCursor.begins.Given as goal

abbrev pub invariant-loop-cell : goal.invariant-loop-cell
invariant-loop-cell l = begins l.self ≡ begins l.rest

abbrev pub decreases-loop-cell : goal.decreases-loop-cell
decreases-loop-cell l = length l.rest
