use Rattle.std.proofs.Common.{◌∙◌}
use Rattle.text_lines.specs.WrittenViews.{written_of}
use Rattle.text_lines.proofs.TypedLines.{query-is}
use Rattle.text_lines.proofs.typed_line.TypedLine.is_query.Goals as goal

pub returns : goal.returns
returns c = λ w e. c.is_query.ensures ∙ query-is w (written_of c.args.self.now.read) e
