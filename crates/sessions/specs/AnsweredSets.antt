-- Sets of crates of several texts, told by what calls answered of each crate.
use Rattle.std.specs.Prelude.{◌≡◌, ℕ, List, []}
use Rattle.type_terms.specs.Promised.Worlds.{World}
use Rattle.type_terms.specs.Promised.Proofs.{In}
use Rattle.type_terms.specs.Promised.Renumbering.{asker_in_set}
use Rattle.type_terms.specs.Promised.LinkedSet.{LinkedSet, ObeysTextRules, OrderedCrates}
use Rattle.type_terms.specs.ArrangingLaws.{Listed, HoldsInOrder}
use Rattle.text_language.specs.Promised.Declarations.{Declarations}
use Rattle.overlap_check.specs.SessionLaws.{HeadlineInOrder}
use Rattle.sessions.specs.Promised.AnsweredSets.{IsAcceptedAndHeld, IsOfAskedCrates}
use Rattle.sessions.specs.Promised.CoherentTexts.{text_world}
use Rattle.sessions.specs.Promised.Subjects.{IsOfText}

-- A text without a fault obeys the rules of texts.
abbrev pub TextsObeyTheirRules : Type 0
TextsObeyTheirRules = (d : Declarations) → IsOfText d → ObeysTextRules (text_world d)

-- The same where each text lists the auto traits of a `dyn` in an order of its own, which may not be that of W.
abbrev pub WasAskedInOrder : List Listed → ℕ → Type 0
WasAskedInOrder os c = (o : Listed) × In o os × (asker_in_set o.view ≡ c)

pub record IsAnsweredSetInAnyOrder (W : World) (os : List Listed) (rank : ℕ → ℕ) : Type 0 where
  pub fits : OrderedCrates W rank
  pub holds : (o : Listed) → In o os → HoldsInOrder W o.order o.view
  pub crates : IsOfAskedCrates W (WasAskedInOrder os)
  pub answered : (o : Listed) → In o os → IsAcceptedAndHeld o.view

abbrev pub AnsweredSetsInAnyOrder : Type 0
AnsweredSetsInAnyOrder =
    (W : World) (os : List Listed) (rank : ℕ → ℕ) → IsAnsweredSetInAnyOrder W os rank → LinkedSet W [] rank × ((limit : ℕ) → HeadlineInOrder limit W os os)
