-- Bytes spell at most one line. Worked lines that nothing spells.
use Rattle.std.specs.Prelude.{◌≡◌, ℕ, List, [], ◌∷◌, ◌++◌, Result, Err, codes}
use Rattle.text_language.specs.Promised.Syntax.{Line, WrittenLine}
use Rattle.text_language.specs.Syntax.{spelling, written_spelling}
use Rattle.text_language.specs.Promised.Declarations.{Declarations}
use Rattle.text_language.specs.Written.{IsSpelled}
use Rattle.text_language.specs.Text.{TextGives}

-- No two lines have the same spelling. So bytes are the spelling of one line at most.
abbrev pub OneLine : Type 0
OneLine = (l m : Line) → spelling l ≡ spelling m → l ≡ m

-- The same of lines as they are written.
abbrev pub OneWritten : Type 0
OneWritten = (w v : WrittenLine) → written_spelling w ≡ written_spelling v → w ≡ v

-- A text has one outcome: the same declarations, or the same fault, however it is read.
abbrev pub OneOutcome : Type 0
OneOutcome = (bytes : List ℕ) (r s : Result Declarations (ℕ × ℕ)) → TextGives bytes r → TextGives bytes s → r ≡ s

-- The bytes spell no line.
abbrev pub IsUnwritten : List ℕ → Type 0
IsUnwritten bytes = (w : WrittenLine) → IsSpelled bytes w → ⊥

-- None of these spells a line.
abbrev pub AllUnwritten : List (List ℕ) → Type 0
AllUnwritten [] = Unit {0}
AllUnwritten (b ∷ bs) = IsUnwritten b × AllUnwritten bs

-- Truncated lines, brackets around nothing or around a single type, parameters out of order, and parts where they may not occur.
abbrev pub cut_off : List (List ℕ)
cut_off =
    codes "crate" ∷ codes "crate b uses" ∷ codes "struct" ∷ codes "impl Show for" ∷ codes "impl Show for &'static" ∷ codes "impl Show for fn(u8" ∷ codes "impl Show for dyn"
    ∷ codes "prove in base u8" ∷ codes "refute in base u8: Show," ∷ codes "trait Show:" ∷ codes "impl Show for u8 where" ∷ []

abbrev pub bracketed : List (List ℕ)
bracketed = codes "struct V()" ∷ codes "struct V<>" ∷ codes "impl Show for (u8)" ∷ codes "impl Show for [u8; ]" ∷ codes "impl Show for for<> fn()" ∷ []

abbrev pub out_of_order : List (List ℕ)
out_of_order = codes "struct V<T, 'a>" ∷ codes "struct V<const N, T>" ∷ codes "auto fundamental trait Show" ∷ codes "impl Show for mut &u8" ∷ []

abbrev pub out_of_place : List (List ℕ)
out_of_place = codes "refute in base u8: Show where u8: Show" ∷ codes "trait Show: 'a" ∷ codes "struct V(u8) -> u8" ∷ codes "impl Show for ?u8" ∷ codes "impl Show for &'1 u8" ∷ []

-- Types without the `;` that ends them, without a value or with one, and bindings before arguments or in a header.
abbrev pub ill_typed : List (List ℕ)
ill_typed =
    codes "trait It {}" ∷ codes "trait It { type Item }" ∷ codes "trait It { type Item = u8; }" ∷ codes "impl It for u8 { type Item; }" ∷ codes "impl It for u8 { Item = u8; }"
    ∷ codes "impl It<Item = u8> for u8" ∷ codes "trait Show: It<Item = u8, u8>" ∷ codes "struct V { type Item; }" ∷ codes "prove in base u8: It<?x = u8>" ∷ []

abbrev pub UnwrittenLines : Type 0
UnwrittenLines = AllUnwritten cut_off × AllUnwritten bracketed × AllUnwritten out_of_order × AllUnwritten out_of_place × AllUnwritten ill_typed

-- A `struct` line that precedes every crate has fault 2, not 3, if the grammar has no such line. A byte of 128 or more has fault 1, also
-- in a comment and in a line that the grammar does not have.
abbrev pub SyntaxFaults : Type 0
SyntaxFaults =
    TextGives (codes "struct") (Err (1, 2))
    × TextGives (200 ∷ []) (Err (1, 1))
    × TextGives (codes "// " ++ 200 ∷ []) (Err (1, 1))
    × TextGives (codes "struct" ++ 200 ∷ []) (Err (1, 1))
