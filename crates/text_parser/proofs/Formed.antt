-- What a line is by itself, read off its tokens.
use Rattle.std.proofs.Common.{◌≡◌, false, List, sym, ap, ◌∙◌}
use Rattle.text_language.specs.Promised.Syntax.{Line}
use Rattle.text_language.specs.Syntax.{spelling, written_spelling}
use Rattle.text_language.specs.Tokens.{Token}
use Rattle.text_language.proofs.PlainLines.{written-alone}
use Rattle.text_lines.specs.Lines.{SpellsLine}
use Rattle.text_lines.specs.WrittenLines.{has_types}
use Rattle.text_lines.specs.declared.statement.LineRead.{LineRead}
use Rattle.text_lines.proofs.ListsRead.{plain-lines}
use Rattle.text_parser.specs.Forms.{IsFormOf}
use Rattle.text_parser.specs.declared.form.LineForm.TheVariants as forms

-- tokens without types that spell no line spell no written line
pub unspelled-form : (ts : List Token) → has_types ts ≡ false → ((l : Line) → ts ≡ spelling l → ⊥) → IsFormOf ts forms.Unwritten
unspelled-form ts free none = λ w s.
    let n = plain-lines w (ap has_types (sym s) ∙ free) in
    none n.0 (s ∙ ap written_spelling n.1 ∙ written-alone n.0)

pub read-form : (ts : List Token) (r : LineRead) → SpellsLine ts r → IsFormOf ts (forms.Read r)
read-form ts r (l, s, h) = (l, s ∙ sym (written-alone l), h)
