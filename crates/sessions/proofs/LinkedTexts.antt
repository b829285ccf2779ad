-- Crates of any texts that were accepted and held are a linked set.
use Rattle.std.proofs.Common.{inl, inr, [], ◌++◌, Ok}
use Rattle.type_terms.specs.Promised.Proofs.{In}
use Rattle.type_terms.specs.Promised.Renumbering.{View}
use Rattle.type_terms.specs.Promised.LinkedSet.{LinkedSet}
use Rattle.type_terms.specs.ArrangingLaws.{Listed, HoldsInOrder}
use Rattle.type_terms.proofs.Members.{in-append}
use Rattle.type_terms.proofs.HeldSets.{held-linked}
use Rattle.type_terms.proofs.ArrangedHeld.{held-in-any-order}
use Rattle.type_terms.specs.Promised.SetLaws.{HeadlineHolds, AnswersHoldEverywhere}
use Rattle.overlap_check.specs.SessionLaws.{HeadlineInAnyOrder}
use Rattle.sessions.specs.Promised.CoherentTexts.{text_world}
use Rattle.sessions.specs.Promised.AnsweredSets.{IsAcceptedAndHeld, AnsweredSetsAreLinked, AnsweredSetsAreCoherent}
use Rattle.sessions.specs.AnsweredSets.{TextsObeyTheirRules, AnsweredSetsInAnyOrder}
use Rattle.sessions.proofs.KeptTexts.{texts-are-kept}
use Rattle.sessions.proofs.JoinedTexts.{text-obeys}
use Rattle.sessions.proofs.AnsweredInOrder.{SeesText, answered-obey}
use Rattle.sessions.proofs.AnsweredSets.{answered-joined}
use Rattle.text_language.proofs.SameTexts.{text-gives}

pub texts-obey-their-rules : TextsObeyTheirRules
texts-obey-their-rules d (bytes, t) = text-obeys d (texts-are-kept bytes d (text-gives bytes (Ok d) t))

sees-text : (v : View) → IsAcceptedAndHeld v → SeesText v
sees-text v a = record { text = text_world a.text; rules = texts-obey-their-rules a.text a.of_text; seen = a.seen }

pub answered-sets-are-linked : AnsweredSetsAreLinked
answered-sets-are-linked W vs rank s =
    held-linked W vs rank
    (answered-joined W vs rank s.fits s.holds s.crates (λ v m. sees-text v (s.answered v m)) (λ v m. (s.answered v m).accepted.keeps))
    s.crates.impls (λ v m. (s.answered v m).held)

pub answered-sets-are-coherent : HeadlineHolds → AnswersHoldEverywhere → AnsweredSetsAreCoherent
answered-sets-are-coherent headline answers W vs rank s limit =
    (headline W vs rank (answered-sets-are-linked W vs rank s) s.crates.impls (λ v m. (s.answered v m).accepted), answers limit W vs rank (answered-sets-are-linked W vs rank s))

pub answered-sets-in-any-order : HeadlineInAnyOrder → AnsweredSetsInAnyOrder
answered-sets-in-any-order headline W os rank s =
    (linked, λ limit. headline limit W os os rank linked stand s.crates.impls (λ o m. (s.answered o m).accepted))
  where
    linked : LinkedSet W [] rank
    linked =
        let q = answered-obey W os rank s.fits s.holds s.crates (λ o m. sees-text o.view (s.answered o m)) (λ o m. (s.answered o m).accepted.keeps) in
        held-in-any-order W rank (record { rules = q.0; fits = s.fits; orphan_rule = q.1; as_answered = tt }) os s.holds s.crates.impls (λ o m. (s.answered o m).held)

    stand : (o : Listed) → In o (os ++ os) → HoldsInOrder W o.order o.view
    stand o m = elim (in-append o os os m) [ inl k ↦ s.holds o k | inr k ↦ s.holds o k ]
