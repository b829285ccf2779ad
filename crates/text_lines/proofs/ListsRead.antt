-- A line without types stands for itself.
use Rattle.std.proofs.Common.{◌≡◌, false}
use Rattle.text_language.specs.Promised.Syntax.{Line, WrittenLine}
use Rattle.text_language.specs.Syntax.{written_spelling}
use Rattle.text_language.specs.Agreement.{plain}
use Rattle.text_lines.specs.WrittenLines.{has_types}
use Rattle.text_lines.proofs.HasTypes.{bare_line, without-types}

pub plain-lines : (w : WrittenLine) → has_types (written_spelling w) ≡ false → (l : Line) × (w ≡ plain l)
plain-lines w h = (bare_line w, without-types w h)
