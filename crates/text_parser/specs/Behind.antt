-- A text with one more line behind it.
use Rattle.std.specs.Prelude.{◌≡◌, ℕ, ◌+◌, ◌≤◌, List, [], ◌∷◌, ◌++◌, length, Ok, Err}
use Rattle.text_language.specs.Promised.Declarations.{Declarations}
use Rattle.text_language.specs.Text.{LineGives, TextGives, lines_of}
use Rattle.text_language.specs.Promised.Text.{text_limit}
use Rattle.text_tables.specs.Numbered.{IsFew}

-- no byte ends it
abbrev pub IsOneLine : List ℕ → Type 0
IsOneLine line = lines_of line ≡ line ∷ []

-- the text, the end of its last line, and the line
abbrev pub behind : List ℕ → List ℕ → List ℕ
behind bytes line = bytes ++ 10 ∷ line

abbrev pub FitsBehind : List ℕ → List ℕ → Type 0
FitsBehind bytes line = length bytes + 1 + length line ≤ text_limit

-- The text with the line gives what the line gives over what the text gives: declarations, or a fault of its last line.
abbrev pub LinesBehindTexts : Type 0
LinesBehindTexts =
    (bytes line : List ℕ) (d : Declarations) → TextGives bytes (Ok d) → IsOneLine line → FitsBehind bytes line
    → ((e : Declarations) → LineGives d line (Ok e) → TextGives (behind bytes line) (Ok e))
    × ((n : ℕ) → LineGives d line (Err n) → TextGives (behind bytes line) (Err (length (lines_of bytes) + 1, n)))

-- A text declares fewer than k of each kind.
abbrev pub TextsAreFew : ℕ → Type 0
TextsAreFew k = (bytes : List ℕ) (d : Declarations) → TextGives bytes (Ok d) → IsFew d k
