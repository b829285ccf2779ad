-- The meaning of a whole text: what its lines declare, one after the other.
use Rattle.std.specs.Prelude.{◌≡◌, ℕ, suc, ◌<◌, ◌≤◌, true, false, List, [], ◌∷◌, length, Result, Ok, Err}
use Rattle.text_language.specs.Promised.Declarations.{Declarations}
use Rattle.text_language.specs.Promised.Syntax.{WrittenLine}
use Rattle.text_language.specs.Promised.Text.{text_limit, long_line}
use Rattle.text_language.specs.Promised.Written.{is_ascii, is_blank}
use Rattle.text_language.specs.Promised.CoreText.{core_declared}
use Rattle.text_language.specs.Promised.Grammar.{BytesWrite, text_lines}
use Rattle.text_language.specs.Promised.Desugared.{written_says}

-- The meaning of a line, with the declarations of the lines before it: declarations, or the number of a fault. Fault 1:
-- it has a byte that is not ASCII. Fault 2: it does not follow the grammar.
pub data LineSays (d : Declarations) (line : List ℕ) : Result Declarations ℕ → Type 0 where
  has_other_byte : is_ascii line ≡ false → LineSays d line (Err 1)
  says_blank : is_ascii line ≡ true → is_blank line ≡ true → LineSays d line (Ok d)
  says_no_line : is_ascii line ≡ true → is_blank line ≡ false → ((w : WrittenLine) → BytesWrite line w → ⊥) → LineSays d line (Err 2)
  says_line : (w : WrittenLine) → is_ascii line ≡ true → is_blank line ≡ false → BytesWrite line w → LineSays d line (written_says d line w)

-- The meaning of the lines, the first of which has number k: declarations, or the first faulty line with its fault.
pub data LinesSay : Declarations → ℕ → List (List ℕ) → Result Declarations (ℕ × ℕ) → Type 0 where
  text_ends : (d : Declarations) (k : ℕ) → LinesSay d k [] (Ok d)
  line_fails : (d : Declarations) (k n : ℕ) (l : List ℕ) (ls : List (List ℕ)) → LineSays d l (Err n) → LinesSay d k (l ∷ ls) (Err (k, n))
  lines_follow : (d e : Declarations) (k : ℕ) (l : List ℕ) (ls : List (List ℕ)) (r : Result Declarations (ℕ × ℕ)) → LineSays d l (Ok e) → LinesSay e (suc k) ls r
      → LinesSay d k (l ∷ ls) r

-- The meaning of a text: declarations, or the first faulty line with the smallest fault that applies. A text of more
-- than 64 MiB has fault 16, on the line with the first byte that exceeds the limit.
pub data TextSays (bytes : List ℕ) : Result Declarations (ℕ × ℕ) → Type 0 where
  overlong : text_limit < length bytes → TextSays bytes (Err (long_line bytes, 16))
  of_lines : (r : Result Declarations (ℕ × ℕ)) → length bytes ≤ text_limit → LinesSay core_declared 1 (text_lines bytes) r → TextSays bytes r
