-- The first token of bytes that do not begin with a space, and the bytes after it.
use Rattle.std.specs.Prelude.{◌≡◌, ℕ, List, [], ◌∷◌, length, drop, take_while, Option, Some, None, ◌==◌, if◌then◌else◌}
use Rattle.std.specs.Option.{option_map}
use Rattle.text_language.specs.Words.{is_word_byte, sign_at, keyword_named, primitive_named}
use Rattle.text_language.specs.Tokens.{Token, sign, arrow, word_token, as_lifetime, as_variable}

-- neither a keyword nor a primitive type
abbrev pub IsUnreserved : List ℕ → Type 0
IsUnreserved w = (keyword_named w ≡ None) × (primitive_named w ≡ None)

-- the token of the word at the front, and the bytes after the word
abbrev pub of_word : (Option Token → Option Token) → List ℕ → Option (Token × List ℕ)
of_word f bs = option_map (λ t. (t, drop (length (take_while is_word_byte bs)) bs)) (f (word_token (take_while is_word_byte bs)))

abbrev pub itself : Option Token → Option Token
itself t = t

-- after `-`
abbrev pub arrow_at : List ℕ → Option (Token × List ℕ)
arrow_at [] = None
arrow_at (c ∷ bs) = if c == 62 then Some (arrow, bs) else None

-- the sign of a byte, followed by these bytes
abbrev pub lone_sign : ℕ → List ℕ → Option (Token × List ℕ)
lone_sign b bs = option_map (λ s. (sign s, bs)) (sign_at b)

unfoldable pub token_at : List ℕ → Option (Token × List ℕ)
token_at [] = None
token_at (b ∷ bs) =
    if is_word_byte b then of_word itself (b ∷ bs) else
    (if b == 39 then of_word as_lifetime bs else
    (if b == 63 then of_word as_variable bs else
    (if b == 45 then arrow_at bs else lone_sign b bs)))
