-- What the answers to a question about several trait references promise. These have one value for each variable. Terms have no lifetimes.
use Rattle.std.specs.Prelude.{ℕ, IsTrue, List, [], ◌∷◌, map}
use Rattle.type_terms.specs.Promised.Answers.{is_closed}
use Rattle.type_terms.specs.Promised.Erased.{erased_reference}
use Rattle.type_terms.specs.Promised.Label.{Sort}
use Rattle.type_terms.specs.Promised.Proofs.{Every, HasProof, HasElaboratedProof}
use Rattle.type_terms.specs.Promised.Questions.{FitKinds, filled_reference, HoldUnknownsAlone, ProveAnswer, yes, RefuteAnswer, no, unrefuted}
use Rattle.type_terms.specs.Promised.Renumbering.{renumbered_reference}
use Rattle.type_terms.specs.Promised.Trees.{Trees}
use Rattle.type_terms.specs.Promised.Verdicts.{InEverySetWith}
use Rattle.type_terms.specs.Promised.Worlds.{World, Reference}
use Rattle.text_language.specs.Promised.Declarations.{Question}

-- The trait references that a question asks about.
abbrev pub all_asked : Question → List Reference
all_asked q = map erased_reference (q.asked ∷ q.further)

-- The trait references, with the values for their variables.
abbrev pub filled_references : List Sort → List Trees → List Reference → List Reference
filled_references ks ts rs = map (filled_reference ks ts) rs

-- Closed values for the variables, such that H holds of each of the trait references with these values.
pub record SolutionOfAll (H : Reference → Type 0) (ks : List Sort) (rs : List Reference) : Type 0 where
  pub values : List Trees
  pub fitting : FitKinds ks values
  pub closed : Every (λ t. IsTrue (is_closed t)) values
  pub proved : Every H (filled_references ks values rs)

-- `yes`: each of the trait references with the values has a proof by the rules of the view V and the where-clauses E. If the values mention
-- inference variables alone, there also are closed values with which all have proofs.
abbrev pub AreProved : World → List Sort → List Reference → List Reference → ProveAnswer → Type 0
AreProved V ks E rs (yes ts) =
    FitKinds ks ts × Every (HasProof V E) (filled_references ks ts rs) × (HoldUnknownsAlone ts → SolutionOfAll (HasProof V E) ks rs)
AreProved V ks E rs a = Unit {0}

-- `no`: no closed values give all of the trait references proofs
-- - in any linked set with the view V of crate c, or
-- - by elaborated proofs in the view alone.
abbrev pub AreRefuted : World → ℕ → List Sort → List Reference → RefuteAnswer → Type 0
AreRefuted V c ks rs no =
    (SolutionOfAll (HasElaboratedProof V []) ks rs → ⊥) × InEverySetWith V c (λ W ρ. SolutionOfAll (HasProof W []) ks (map (renumbered_reference ρ) rs) → ⊥)
AreRefuted V c ks rs unrefuted = Unit {0}
