-- A worked set: crates of two texts, each asked in a text of its own.
use Rattle.std.specs.Prelude.{◌≡◌, ℕ, List, [], ◌∷◌, ◌++◌, Ok, codes}
use Rattle.type_terms.specs.Promised.Renumbering.{Renumbering}
use Rattle.type_terms.specs.Renumbering.{view_at}
use Rattle.text_language.specs.Promised.Declarations.{Declarations}
use Rattle.text_language.specs.Text.{TextGives}
use Rattle.sessions.specs.Promised.CoherentTexts.{text_world}
use Rattle.sessions.specs.Promised.Promises.{view_in}
use Rattle.sessions.specs.Promised.AnsweredSets.{IsAnsweredSet}

-- Lines of a text, one below the other.
abbrev pub lines : List (List ℕ) → List ℕ
lines [] = []
lines (l ∷ []) = l
lines (l ∷ ls) = l ++ 10 ∷ lines ls

-- Here first is crate 2, and A is struct 3.
abbrev pub text_with_aside : List ℕ
text_with_aside =
    lines (codes "crate aside" ∷ codes "struct C" ∷ codes "crate first" ∷ codes "trait Show" ∷ codes "struct A" ∷ codes "impl Show for A" ∷ [])

-- And here first is crate 1, and A is struct 2.
abbrev pub text_with_second : List ℕ
text_with_second =
    lines
    (codes "crate first" ∷ codes "trait Show" ∷ codes "struct A" ∷ codes "impl Show for A"
    ∷ codes "crate second uses first" ∷ codes "struct B" ∷ codes "impl Show for B" ∷ [])

-- In the set of first, as it was asked in the one text, and second, as it was asked in the other, each was accepted and held. The set has
-- the numbers of the second text.
abbrev pub CratesOfTwoTextsAreASet : Type 0
CratesOfTwoTextsAreASet =
    (d : Declarations) × (e : Declarations) × TextGives text_with_aside (Ok d) × TextGives text_with_second (Ok e) × (ρ : Renumbering) × (ρ.crates.to 2 ≡ 1) × (ρ.structs.to 3 ≡ 2)
    × IsAnsweredSet (text_world e) (record { numbers = ρ; asker = 2; world = view_in d 2 } ∷ view_at (text_world e) 2 ∷ []) (λ n. n)
