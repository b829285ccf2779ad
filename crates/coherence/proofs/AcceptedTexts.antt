-- Where each crate's line says `accepted`, each crate is; and where each has a line that says `held`, its supertraits are. So the text is
-- coherent, and its types of traits have one value.
use Rattle.std.proofs.Common.{◌≡◌, ◌++◌, ℕ, List, Ok, refl, sym}
use Rattle.std.specs.Prelude.{codes}
use Rattle.std.specs.List.{AllZip}
use Rattle.std.proofs.lemmas.List.{append_cancel_left}
use Rattle.sessions.specs.TextLanguage.Promised.Declarations.{Declarations, of_supers}
use Rattle.sessions.specs.Promised.CoherentTexts.{CratesAreAccepted, CratesAreHeld, HeldTextsAreCoherent}
use Rattle.sessions.specs.CoherentTexts.{AcceptedTextsAreCoherent}
use Rattle.coherence.specs.Promised.CrateAnswers.{crate_text}
use Rattle.coherence.specs.Promised.Told.{crate_topic, check_topic, topics, line_of_crate, TellsTopic, AllSayAccepted, AllSayHeld, SupertraitsStand, AcceptedTextsHold}
use Rattle.coherence.proofs.CheckAnswersHold.{held-answer}
use Rattle.coherence.proofs.CrateAnswersHold.{accepted-answer}
use Rattle.coherence.proofs.Topics.{at-one-place}
use Rattle.coherence.proofs.ValuesAreOne.{values-are-one}

module _ (limit : ℕ) (d : Declarations) (ls : List (List ℕ)) (told : AllZip (TellsTopic limit) (topics (Ok d)) ls) where
  same-line : (c : ℕ) (t u : List ℕ) → line_of_crate d c t ≡ line_of_crate d c u → t ≡ u
  same-line c t u e = append_cancel_left (codes "crate " ++ crate_text d c ++ codes ": ") t u e

  all-accepted : AllSayAccepted d ls → CratesAreAccepted d
  all-accepted h c l g =
      let at = h c l g in
      let line = at-one-place (TellsTopic limit) (topics (Ok d)) ls at.0 (crate_topic d c) (line_of_crate d c (codes "accepted")) told at.1 at.2 in
      accepted-answer limit d c line.0 line.1 (sym (same-line c (codes "accepted") line.0 line.2))

  all-held : AllSayHeld d ls → CratesAreHeld d
  all-held h c l g =
      let at = h c l g in
      held-answer limit d c (codes "supers " ++ crate_text d c ++ codes ": held")
      (at-one-place (TellsTopic limit) (topics (Ok d)) ls at.0 (check_topic d (of_supers c)) (codes "supers " ++ crate_text d c ++ codes ": held") told at.1 at.2) refl

pub accepted-texts-hold : AcceptedTextsAreCoherent → AcceptedTextsHold SupertraitsStand
accepted-texts-hold coherent limit bytes d ls says told accepted supers =
    let whole = coherent d (bytes, says) (all-accepted limit d ls told accepted) supers in
    (whole, values-are-one bytes d says whole)

pub held-texts-hold : HeldTextsAreCoherent → AcceptedTextsHold AllSayHeld
held-texts-hold coherent limit bytes d ls says told accepted held =
    let whole = coherent d (bytes, says) (all-accepted limit d ls told accepted) (all-held limit d ls told held) in
    (whole, values-are-one bytes d says whole)
