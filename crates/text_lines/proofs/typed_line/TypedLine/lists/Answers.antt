use Rattle.text_lines.specs.Pieces.{lists_in}
use Rattle.text_lines.specs.WrittenViews.{written_of}
use Rattle.text_lines.proofs.TypedLines.{lists-stand}
use Rattle.text_lines.proofs.typed_line.TypedLine.lists.Goals as goal

pub returns : goal.returns
returns c = lists-stand (λ v. lists_in v.items) c.line_lists.result (written_of c.args.self.now.read) c.line_lists.ensures
