use Rattle.std.proofs.Common.{◌∙◌}
use Rattle.text_lines.specs.WrittenViews.{written_of}
use Rattle.text_lines.proofs.TypedLines.{many-are}
use Rattle.text_lines.proofs.typed_line.TypedLine.has_many_types.Goals as goal

pub returns : goal.returns
returns c = λ w e. c.has_many_types.ensures ∙ many-are w (written_of c.args.self.now.read) e
