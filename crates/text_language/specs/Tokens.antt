-- Tokens, and the tokens of a line of bytes.
use Rattle.std.specs.Prelude.{ℕ, ◌+◌, ◌-◌, ◌*◌, false, ◌&&◌, List, [], ◌∷◌, Option, Some, None, slice_get, ◌==◌, if◌then◌else◌}
use Rattle.std.specs.List.{list_all}
use Rattle.std.specs.Option.{option_map_or, option_map, option_and_then}
use Rattle.type_terms.specs.Promised.Label.{Label}
use Rattle.text_language.specs.Words.{Keyword, is_word_byte, is_digit, Sign, sign_at, keyword_named, primitive_named}

-- A token. `'a` is a lifetime, `?x` is a variable, and `->` is the arrow. A sign is one byte.
pub data Token : Type 0 where
  keyword : Keyword → Token
  primitive : Label → Token
  name lifetime variable : List ℕ → Token
  number : ℕ → Token
  sign : Sign → Token
  arrow : Token

-- ---- the pieces of a line: words, words directly after `'` or `?`, `->`, and all other bytes
pub data LinePiece : Type 0 where
  word quoted queried : List ℕ → LinePiece
  pointing : LinePiece
  byte : ℕ → LinePiece

-- A byte of a word, before the pieces of the rest.
abbrev pub onto : ℕ → List LinePiece → List LinePiece
onto b (word w ∷ ps) = word (b ∷ w) ∷ ps
onto b ps = word (b ∷ []) ∷ ps

-- Another byte, before the pieces of the rest.
abbrev pub before : ℕ → List LinePiece → List LinePiece
before b (word w ∷ ps) = if b == 39 then quoted w ∷ ps else (if b == 63 then queried w ∷ ps else byte b ∷ word w ∷ ps)
before b (byte c ∷ ps) = if (b == 45) && (c == 62) then pointing ∷ ps else byte b ∷ byte c ∷ ps
before b ps = byte b ∷ ps

abbrev pub pieces : List ℕ → List LinePiece
pieces [] = []
pieces (b ∷ bs) = if is_word_byte b then onto b (pieces bs) else before b (pieces bs)

-- ---- the tokens of the pieces

-- The number that the digits write, after digits that write n.
abbrev pub number_from : ℕ → List ℕ → ℕ
number_from n [] = n
number_from n (d ∷ ds) = number_from (10 * n + (d - 48)) ds

-- A reserved word, or else a name.
abbrev pub name_token : List ℕ → Token
name_token w = elim (keyword_named w) [ Some k ↦ keyword k | None ↦ elim (primitive_named w) [ Some p ↦ primitive p | None ↦ name w ] ]

-- The token of a word. A word that begins with a digit must be a number, with digits alone.
abbrev pub word_token : List ℕ → Option Token
word_token w = if list_all is_digit w then Some (number (number_from 0 w)) else (if option_map_or is_digit (slice_get w 0) false then None else Some (name_token w))

-- The token of a word after `'`, which must be a name. The same is true after `?`.
abbrev pub as_lifetime : Option Token → Option Token
as_lifetime (Some (name n)) = Some (lifetime n)
as_lifetime _ = None

abbrev pub as_variable : Option Token → Option Token
as_variable (Some (name n)) = Some (variable n)
as_variable _ = None

abbrev pub sign_token : ℕ → Option Token
sign_token b = option_map sign (sign_at b)

abbrev pub in_front : Option Token → Option (List Token) → Option (List Token)
in_front t ts = option_and_then (λ x. option_map (λ xs. x ∷ xs) ts) t

-- The tokens of the pieces. Spaces are no tokens.
abbrev pub tokens_from : List LinePiece → Option (List Token)
tokens_from [] = Some []
tokens_from (word w ∷ ps) = in_front (word_token w) (tokens_from ps)
tokens_from (quoted w ∷ ps) = in_front (as_lifetime (word_token w)) (tokens_from ps)
tokens_from (queried w ∷ ps) = in_front (as_variable (word_token w)) (tokens_from ps)
tokens_from (pointing ∷ ps) = in_front (Some arrow) (tokens_from ps)
tokens_from (byte b ∷ ps) = if b == 32 then tokens_from ps else in_front (sign_token b) (tokens_from ps)

-- The tokens of a line. There are none if the line has anything else.
unfoldable pub tokens_of : List ℕ → Option (List Token)
tokens_of line = tokens_from (pieces line)
