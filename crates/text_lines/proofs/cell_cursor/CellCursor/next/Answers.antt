use Rattle.std.proofs.Common.{sym, ◌∙◌}
use Rattle.text_lines.proofs.PartsOfCells.{cells-next}
use Rattle.text_lines.proofs.cell_cursor.CellCursor.next.Goals as goal

pub returns-then-self-gt0-clause-cell : goal.returns-then-self-gt0-clause-cell
returns-then-self-gt0-clause-cell c = sym c.self.view_is ∙ cells-next c.self.inside.cells.now c.self.inside.at _ c.if-self-gt0.true c.self.invariant
