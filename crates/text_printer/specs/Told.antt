-- The answer can be read from the line that prints it.
use Rattle.std.specs.Prelude.{◌≡◌, ℕ, ◌<◌, ◌^◌, Bool, true, not, ◌&&◌, ◌==◌, List, All, IfSome}
use Rattle.std.specs.List.{list_all, flat_map}
use Rattle.text_language.specs.Output.{Answer, fault, accepted, nonlocal, uncovered, overlap, compatible, breaking, held, missing, undecided, yes, maybe, unproved, no, unrefuted, ValueText, output_text}
use Rattle.text_language.specs.Words.{is_word_byte}

-- A name has letters, digits and `_` alone.
abbrev pub IsName : List ℕ → Type 0
IsName n = list_all is_word_byte n ≡ true

-- The text of a type has no `=`, and no end of a line.
abbrev pub is_term_byte : ℕ → Bool
is_term_byte b = not (b == 61) && not (b == 10)

abbrev pub IsTermText : List ℕ → Type 0
IsTermText t = list_all is_term_byte t ≡ true

-- Numbers are those of 32 bits.
abbrev pub IsNumber : ℕ → Type 0
IsNumber n = n < 2 ^ 32

abbrev pub IsPrintableValue : ValueText → Type 0
IsPrintableValue v = IsName v.variable × IsTermText v.term

-- Crates, parameters and variables have names, and types have texts of types.
abbrev pub IsPrintable : Answer → Type 0
IsPrintable (fault l n) = IsNumber l × IsNumber n
IsPrintable (accepted n) = IsName n
IsPrintable (nonlocal n k) = IsName n × IsNumber k
IsPrintable (uncovered n k p b) = IsName n × IsNumber k × IsName p × IfSome b IsTermText
IsPrintable (overlap n k o j) = IsName n × IsNumber k × IsName o × IsNumber j
IsPrintable (compatible n) = IsName n
IsPrintable (breaking n k) = IsName n × IsNumber k
IsPrintable (held n) = IsName n
IsPrintable (missing n k j) = IsName n × IsNumber k × IsNumber j
IsPrintable (undecided n k j) = IsName n × IsNumber k × IsNumber j
IsPrintable (yes q vs) = IsNumber q × All IsPrintableValue vs
IsPrintable (maybe q vs) = IsNumber q × All IsPrintableValue vs
IsPrintable (unproved q) = IsNumber q
IsPrintable (no q) = IsNumber q
IsPrintable (unrefuted q) = IsNumber q

-- Different answers print different lines.
abbrev pub LinesTellAnswers : Type 0
LinesTellAnswers = (a b : Answer) → IsPrintable a → IsPrintable b → output_text a ≡ output_text b → a ≡ b

-- Different lists of answers print different texts.
abbrev pub OutputsTellAnswers : Type 0
OutputsTellAnswers = (xs ys : List Answer) → All IsPrintable xs → All IsPrintable ys → flat_map output_text xs ≡ flat_map output_text ys → xs ≡ ys
