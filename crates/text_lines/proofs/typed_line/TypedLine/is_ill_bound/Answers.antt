use Rattle.std.proofs.Common.{◌∙◌}
use Rattle.text_lines.specs.WrittenViews.{written_of}
use Rattle.text_lines.proofs.TypedLines.{ill-are}
use Rattle.text_lines.proofs.typed_line.TypedLine.is_ill_bound.Goals as goal

pub returns : goal.returns
returns c = λ w e. c.is_ill_bound.ensures ∙ ill-are w (written_of c.args.self.now.read) e
