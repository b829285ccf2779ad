use Rattle.std.proofs.Common.{take, sym, subst}
use Rattle.text_lines.specs.TypeViews.{cells_in}
use Rattle.text_names.specs.UsedNames.{Holds, names_with}
use Rattle.text_names.proofs.UsedLaws.{names-step}
use Rattle.text_names.proofs.name_set.NameSet.add_used.Goals as goal

pub loop-cell-preserved : goal.loop-cell-preserved
loop-cell-preserved c ns h =
    let i = c.loop-cell.cell-index in
    let cs = c.args.cells.now in
    subst (Holds c.add_cell.new.self) (sym (names-step cs i _ ns c.loop-cell-test.true)) (c.in_ok-add_cell.ensures (names_with (take i (cells_in cs)) ns) (c.loop-cell.invariant ns h))
