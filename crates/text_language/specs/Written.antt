-- The long definition of how a line is written.
use Rattle.std.specs.Prelude.{◌≡◌, ℕ, List, Some}
use Rattle.text_language.specs.Tokens.{tokens_of}
use Rattle.text_language.specs.Promised.Syntax.{Line, WrittenLine}
use Rattle.text_language.specs.Syntax.{spelling, written_spelling}

-- The bytes are this line: their tokens are those of the line.
abbrev pub IsWritten : List ℕ → Line → Type 0
IsWritten line l = tokens_of line ≡ Some (spelling l)

-- The bytes are this line, as it is written.
abbrev pub IsSpelled : List ℕ → WrittenLine → Type 0
IsSpelled line w = tokens_of line ≡ Some (written_spelling w)
