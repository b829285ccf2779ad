use Rattle.text_parser.specs.Numbering.{meanings}
use Rattle.text_parser.proofs.KeptTypes.{line-ready}
use Rattle.text_parser.proofs.parts.clause_cells.Goals as goal

pub returns : goal.returns
returns g c line k s st f =
    let v = g.N.Names.sight c.args.names.now in
    c.in_ok-made.ensures v (meanings v c.args.numbering) c.of-numbers.ensures line k (line-ready v c.args.numbering line c.requires s) st f
