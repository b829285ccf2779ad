use Rattle.std.proofs.Common.{ap, ◌∙◌}
use Rattle.text_lines.specs.Marks.{is_nil}
use Rattle.text_lines.proofs.Ends.{is_nil-drop}
use Rattle.text_lines.proofs.cursor.Cursor.is_empty.Goals as goal

pub returns : goal.returns
returns c = is_nil-drop c.self.inside.tokens.now c.self.inside.at ∙ ap is_nil c.self.view_is
