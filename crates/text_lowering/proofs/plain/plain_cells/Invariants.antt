use Rattle.std.proofs.Common.{take}
use Rattle.text_lowering.proofs.PlainLists.{ArePlain}
use Rattle.text_lowering.specs.PlainCells.{is_kept}
use Rattle.text_lowering.proofs.plain.plain_cells.Given as goal

abbrev pub invariant-loop-cell : goal.invariant-loop-cell
invariant-loop-cell l = ArePlain (is_kept l.kept) (take l.cell-index l.cells) l.plain.items
