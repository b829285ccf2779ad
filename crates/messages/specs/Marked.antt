-- The mark of what was not checked.
use Rattle.std.specs.Prelude.{ℕ, Bool, false, nat_eq, ◌||◌, List, [], ◌∷◌, codes}
use Rattle.std.specs.List.{starts_with}
use Rattle.messages.specs.declared.sentences.Sentence.{Sentence}

-- The words stand somewhere in a text.
abbrev pub says : List ℕ → List ℕ → Bool
says words [] = false
says words (x ∷ xs) = starts_with nat_eq (x ∷ xs) words || says words xs

-- The text says of something that it was not checked.
abbrev pub says_unchecked : List ℕ → Bool
says_unchecked text = says (codes "not checked") text

-- The sentence says so by its fixed words, whatever its parts are.
abbrev pub is_marked : Sentence → Bool
is_marked s = says_unchecked s.template.now
