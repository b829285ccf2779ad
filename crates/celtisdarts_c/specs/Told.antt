-- Output in a caller's buffer.
use Rattle.std.specs.Prelude.{◌≡◌, ℕ, ◌<◌, List, length, take}

-- The buffer begins with the text, and `needed` is its length.
abbrev pub IsAtFront : List ℕ → List ℕ → ℕ → Type 0
IsAtFront text buffer needed = (take needed buffer ≡ text) × (needed ≡ length text)

-- The text does not fit into the buffer, and `needed` is its length.
abbrev pub IsTooShort : List ℕ → List ℕ → ℕ → Type 0
IsTooShort text buffer needed = (length buffer < needed) × (needed ≡ length text)

-- ---- the same of some text with the property P
abbrev pub Tells : (List ℕ → Type 0) → List ℕ → ℕ → Type 0
Tells P buffer needed = (text : List ℕ) × P text × IsAtFront text buffer needed

abbrev pub TellsLength : (List ℕ → Type 0) → List ℕ → ℕ → Type 0
TellsLength P buffer needed = (text : List ℕ) × P text × IsTooShort text buffer needed
