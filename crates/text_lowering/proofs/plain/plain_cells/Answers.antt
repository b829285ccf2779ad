use Rattle.std.proofs.Common.{◌+◌, refl, sym, subst, take}
use Rattle.std.proofs.lemmas.Option.{slice_get_read}
use Rattle.text_lowering.specs.PlainCells.{is_kept}
use Rattle.text_lowering.proofs.PlainLists.{ArePlain, one-more-plain}
use Rattle.text_lowering.proofs.plain.plain_cells.Goals as goal

pub loop-cell-preserved : goal.loop-cell-preserved
loop-cell-preserved c =
    let i = c.loop-cell.cell-index in
    let x = c.cell-item.result in
    let there = slice_get_read c.args.cells.now _ i x refl c.loop-cell-test.true c.cell-item.is in
    subst (ArePlain (is_kept c.args.kept) (take (i + 1) c.args.cells.now)) (sym c.in_ok-push.ensures.items)
    (one-more-plain (is_kept c.args.kept) c.args.cells.now c.loop-cell.plain.items i x c.plain_cell.result there c.loop-cell.invariant c.plain_cell.ensures.is c.plain_cell.ensures.parts c.plain_cell.ensures.held)
