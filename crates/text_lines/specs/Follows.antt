-- What may follow a type.
use Rattle.std.specs.Prelude.{List, [], ◌∷◌}
use Rattle.text_language.specs.Words.{open_angle, plus}
use Rattle.text_language.specs.Tokens.{Token, sign, arrow}

-- Neither arguments of its last name, nor another item of its last `dyn`, nor an output of its last `fn`.
abbrev pub IsCompleteType : List Token → Type 0
IsCompleteType [] = Unit {0}
IsCompleteType (sign open_angle ∷ ts) = ⊥
IsCompleteType (sign plus ∷ ts) = ⊥
IsCompleteType (arrow ∷ ts) = ⊥
IsCompleteType (_ ∷ ts) = Unit {0}
