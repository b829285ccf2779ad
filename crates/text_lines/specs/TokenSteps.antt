-- The effect of one step of a cursor.
use Rattle.std.specs.Prelude.{◌≡◌, ℕ, Bool, true, false, List, ◌∷◌, Option, Some, None}
use Rattle.text_language.specs.Words.{open_angle, close_round, plus, mut_word}
use Rattle.text_language.specs.Tokens.{Token, keyword, lifetime, sign, arrow}

-- The first token was read if it is this one. Otherwise nothing was read, and `Other` states that the first token is another one.
abbrev pub Took : Bool → Token → (List Token → Type 0) → List Token → List Token → Type 0
Took true t Other old new = old ≡ t ∷ new
Took false t Other old new = (new ≡ old) × Other old

-- the next token is not `<`
abbrev pub NoAngle : List Token → Type 0
NoAngle (sign open_angle ∷ ts) = ⊥
NoAngle _ = Unit {0}

-- the next token is not `)`
abbrev pub NoRound : List Token → Type 0
NoRound (sign close_round ∷ ts) = ⊥
NoRound _ = Unit {0}

-- the next token is not `+`
abbrev pub NoPlus : List Token → Type 0
NoPlus (sign plus ∷ ts) = ⊥
NoPlus _ = Unit {0}

-- the next token is not `->`
abbrev pub NoArrow : List Token → Type 0
NoArrow (arrow ∷ ts) = ⊥
NoArrow _ = Unit {0}

-- the next token is not `mut`
abbrev pub NoMut : List Token → Type 0
NoMut (keyword mut_word ∷ ts) = ⊥
NoMut _ = Unit {0}

-- the next token is not a lifetime
abbrev pub NoLifetime : List Token → Type 0
NoLifetime (lifetime n ∷ ts) = ⊥
NoLifetime _ = Unit {0}

-- a lifetime was read if it was next
abbrev pub TookLifetime : Option (List ℕ) → List Token → List Token → Type 0
TookLifetime (Some n) old new = old ≡ lifetime n ∷ new
TookLifetime None old new = (new ≡ old) × NoLifetime old
