-- What follows for a text as a whole if all its crates are accepted.
use Rattle.type_terms.specs.Promised.LinkedSet.{HeadersHaveSupertraits}
use Rattle.text_language.specs.Promised.Declarations.{Declarations}
use Rattle.sessions.specs.Promised.CoherentTexts.{text_world, CratesAreAccepted, TextIsCoherent}
use Rattle.sessions.specs.Promised.Subjects.{IsOfText}

-- A text whose crates are all accepted is coherent, if the supertraits of headers have proofs. Without that it need not be: for
-- `trait Sub: Sup; impl Sub for u8` without `impl Sup for u8`, all crates are accepted, and another crate may have the answer that nothing
-- implements `Sub`.
abbrev pub AcceptedTextsAreCoherent : Type 0
AcceptedTextsAreCoherent =
    (d : Declarations) → IsOfText d → CratesAreAccepted d → HeadersHaveSupertraits (text_world d) → TextIsCoherent d
