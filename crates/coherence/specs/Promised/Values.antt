-- What follows for the types of traits in a text whose crates are all accepted.
use Rattle.std.specs.Prelude.{◌≡◌, ℕ, IsTrue, []}
use Rattle.sessions.specs.TypeTerms.Promised.Label.{adt}
use Rattle.sessions.specs.TypeTerms.Promised.Trees.{Trees, none, tree, ◌+++◌}
use Rattle.sessions.specs.TypeTerms.Promised.Worlds.{Reference}
use Rattle.sessions.specs.TypeTerms.Promised.Core.{wrapper}
use Rattle.sessions.specs.TypeTerms.Promised.Answers.{is_closed}
use Rattle.sessions.specs.TypeTerms.Promised.Proofs.{HasProofByImpl}
use Rattle.sessions.specs.TextLanguage.Promised.Declarations.{Declarations}
use Rattle.sessions.specs.TextLanguage.Promised.Desugared.{is_companion}
use Rattle.sessions.specs.Promised.CoherentTexts.{text_world}

-- The reference `X: It<Item = A>`: t is the companion `It::Item`, X has the self type and the arguments of `It`, and the last argument is
-- `W<A>`.
abbrev pub with_value : ℕ → Trees → Trees → Reference
with_value t X A = record { trait = t; args = X +++ tree (adt wrapper) A none }

-- A type of a trait has one value: if concrete references `X: It<Item = A>` and `X: It<Item = B>` have proofs by impls, in the text as a
-- whole, A is B.
abbrev pub ValuesAreOne : Declarations → Type 0
ValuesAreOne d =
    (t n k : ℕ) (X A B : Trees) → IsTrue (is_companion d t) → IsTrue (is_closed X) → IsTrue (is_closed A) → IsTrue (is_closed B)
    → HasProofByImpl (text_world d) [] (with_value t X A) n → HasProofByImpl (text_world d) [] (with_value t X B) k → A ≡ B
