use Rattle.std.proofs.Common.{ap, ◌∙◌, drop}
use Rattle.text_names.proofs.Headers.{between-read}
use Rattle.text_names.proofs.Splitting.{rest-is}
use Rattle.text_names.proofs.header.cells_between.Goals as goal

pub returns : goal.returns
returns c =
    let front = c.cells_to-front.result.now in
    between-read c.args.cells.now front _ c.args.start c.args.end c.cells_to-front.ensures (rest-is c.min.result front ∙ ap (λ k. drop k front) c.min.ensures)
