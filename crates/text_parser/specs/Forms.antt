-- What a line is by itself.
use Rattle.std.specs.Prelude.{◌≡◌, ℕ, true, false, List, Some}
use Rattle.text_language.specs.Agreement.{plain}
use Rattle.text_language.specs.Promised.Syntax.{Line, WrittenLine}
use Rattle.text_language.specs.Promised.Written.{is_ascii, is_blank}
use Rattle.text_language.specs.Syntax.{written_spelling}
use Rattle.text_language.specs.Tokens.{Token, tokens_of}
use Rattle.text_language.specs.Written.{IsSpelled}
use Rattle.text_lines.specs.Lines.{ReadsLine}
use Rattle.text_lines.specs.TokenViews.{tokens_in}
use Rattle.text_lines.specs.WrittenLines.{has_types}
use Rattle.text_lines.specs.declared.statement.LineRead.{LineRead}
use Rattle.text_parser.specs.declared.form.LineForm.{LineForm}
use Rattle.text_parser.specs.declared.form.LineForm.TheVariants as forms

-- The line is neither empty nor a comment, and has bytes below 128 alone.
abbrev pub SaysSomething : List ℕ → Type 0
SaysSomething line = (is_ascii line ≡ true) × (is_blank line ≡ false)

-- The bytes are a line without types, and this was read.
abbrev pub SaysPlain : List ℕ → LineRead → Type 0
SaysPlain line r = (l : Line) × IsSpelled line (plain l) × ReadsLine l r

-- These are the tokens of the line, with `=` or `{` among them.
abbrev pub HasTyped : List ℕ → List Token → Type 0
HasTyped line ts = (tokens_of line ≡ Some ts) × (has_types ts ≡ true)

-- One of five forms, the first that applies. A line of the last form may be unwritten.
abbrev pub IsForm : List ℕ → LineForm → Type 0
IsForm line forms.OtherByte = is_ascii line ≡ false
IsForm line forms.Blank = (is_ascii line ≡ true) × (is_blank line ≡ true)
IsForm line forms.Unwritten = SaysSomething line × ((w : WrittenLine) → IsSpelled line w → ⊥)
IsForm line (forms.Read r) = SaysSomething line × SaysPlain line r
IsForm line (forms.Typed ts) = SaysSomething line × HasTyped line (tokens_in ts.items)

-- The same of the tokens of a line.
abbrev pub IsFormOf : List Token → LineForm → Type 0
IsFormOf ts forms.OtherByte = ⊥
IsFormOf ts forms.Blank = ⊥
IsFormOf ts forms.Unwritten = (w : WrittenLine) → ts ≡ written_spelling w → ⊥
IsFormOf ts (forms.Read r) = (l : Line) × (ts ≡ written_spelling (plain l)) × ReadsLine l r
IsFormOf ts (forms.Typed us) = (ts ≡ tokens_in us.items) × (has_types ts ≡ true)
