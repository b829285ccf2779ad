use Rattle.text_lines.specs.WrittenViews.{written_of}
use Rattle.text_lines.proofs.TypedLines.{header-stands}
use Rattle.text_lines.proofs.typed_line.TypedLine.header_names.Goals as goal

pub returns : goal.returns
returns c = header-stands c.header_names.result (written_of c.args.self.now.read) c.header_names.ensures
