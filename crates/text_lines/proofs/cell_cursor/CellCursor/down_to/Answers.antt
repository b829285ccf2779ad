use Rattle.std.proofs.Common.{◌≤◌, ◌∙◌, ap, arith}
use Rattle.text_lines.specs.Back.{down_to}
use Rattle.text_lines.proofs.PartsOfCells.{cells-down}
use Rattle.text_lines.proofs.cell_cursor.CellCursor.down_to.Goals as goal

pub returns-then-start-self : goal.returns-then-start-self
returns-then-start-self c =
    let h : c.args.start ≤ c.self.inside.at = omega arith in
    cells-down c.self.inside.cells.now c.args.start c.self.inside.at h c.self.invariant ∙ ap (down_to c.args.start) c.self.view_is
