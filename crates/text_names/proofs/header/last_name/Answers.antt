use Rattle.std.proofs.Common.{◌∙◌}
use Rattle.text_names.proofs.Headers.{last-read}
use Rattle.text_names.proofs.header.last_name.Goals as goal

pub returns : goal.returns
returns c = c.cell_name.ensures ∙ last-read c.args.cells.now c.cells_to.result.now c.args.end _ c.cells_to.ensures c.last.ensures.value
