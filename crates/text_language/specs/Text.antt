-- The long definition of the meaning of a whole text.
use Rattle.std.specs.Prelude.{◌≡◌, ℕ, suc, ◌<◌, ◌≤◌, min, true, false, List, [], ◌∷◌, ◌++◌, length, fold, Option, Some, None, Result, Ok, Err, ◌==◌, if◌then◌else◌}
use Rattle.std.specs.List.{reduce}
use Rattle.std.specs.Option.{option_or, option_to_list}
use Rattle.text_language.specs.Promised.Syntax.{Line, WrittenLine}
use Rattle.text_language.specs.Written.{IsSpelled}
use Rattle.text_language.specs.Promised.Written.{is_ascii, is_blank}
use Rattle.text_language.specs.Promised.Declarations.{Declarations}
use Rattle.text_language.specs.Declarations.{nothing_declared}
use Rattle.text_language.specs.Faults.{fault_of}
use Rattle.text_language.specs.Adding.{added}
use Rattle.text_language.specs.Promised.Desugared.{desugared, own_faults, passes_types}
use Rattle.text_language.specs.Promised.Text.{text_limit, long_line}

-- The fault of the first of the lines that has one, when each is added after the lines before it.
abbrev pub first_of : Declarations → List Line → Option ℕ
first_of d [] = None
first_of d (l ∷ ls) = option_or (fault_of d l) (first_of (added d l) ls)

-- The fault of the bytes of a written line.
abbrev pub fault_written : Declarations → List ℕ → WrittenLine → Option ℕ
fault_written d line w = if passes_types line w then Some 16 else reduce min (option_to_list (first_of d (desugared w)) ++ own_faults d w)

-- ---- the meaning of a line, with the declarations of the lines before it: declarations, or the number of a fault
pub data LineGives (d : Declarations) (line : List ℕ) : Result Declarations ℕ → Type 0 where
  other_byte : is_ascii line ≡ false → LineGives d line (Err 1)
  blank : is_ascii line ≡ true → is_blank line ≡ true → LineGives d line (Ok d)
  unwritten : is_ascii line ≡ true → is_blank line ≡ false → ((w : WrittenLine) → IsSpelled line w → ⊥) → LineGives d line (Err 2)
  faulty : (w : WrittenLine) (n : ℕ) → is_ascii line ≡ true → is_blank line ≡ false → IsSpelled line w → fault_written d line w ≡ Some n → LineGives d line (Err n)
  adds : (w : WrittenLine) → is_ascii line ≡ true → is_blank line ≡ false → IsSpelled line w → fault_written d line w ≡ None → LineGives d line (Ok (fold added d (desugared w)))

-- ---- the lines of a text, without the newline
abbrev pub onto_line : ℕ → List (List ℕ) → List (List ℕ)
onto_line b [] = (b ∷ []) ∷ []
onto_line b (l ∷ ls) = (b ∷ l) ∷ ls

abbrev pub lines_of : List ℕ → List (List ℕ)
lines_of [] = [] ∷ []
lines_of (b ∷ bs) = if b == 10 then [] ∷ lines_of bs else onto_line b (lines_of bs)

-- The meaning of the lines, the first of which has number k: declarations, or the first faulty line with its fault.
pub data LinesGive : Declarations → ℕ → List (List ℕ) → Result Declarations (ℕ × ℕ) → Type 0 where
  ends : (d : Declarations) (k : ℕ) → LinesGive d k [] (Ok d)
  fails : (d : Declarations) (k : ℕ) (l : List ℕ) (ls : List (List ℕ)) (n : ℕ) → LineGives d l (Err n) → LinesGive d k (l ∷ ls) (Err (k, n))
  goes_on : (d e : Declarations) (k : ℕ) (l : List ℕ) (ls : List (List ℕ)) (r : Result Declarations (ℕ × ℕ)) → LineGives d l (Ok e) → LinesGive e (suc k) ls r → LinesGive d k (l ∷ ls) r

-- The meaning of a text: declarations, or the first faulty line with the smallest fault that applies.
pub data TextGives (bytes : List ℕ) : Result Declarations (ℕ × ℕ) → Type 0 where
  too_long : text_limit < length bytes → TextGives bytes (Err (long_line bytes, 16))
  fits : (r : Result Declarations (ℕ × ℕ)) → length bytes ≤ text_limit → LinesGive nothing_declared 1 (lines_of bytes) r → TextGives bytes r
