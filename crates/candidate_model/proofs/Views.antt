-- What is proved in a linked set, by a crate's view.
use Rattle.std.proofs.Common.{◌≡◌, false, [], ◌⊎◌, inl, inr, subst}
use Rattle.type_terms.specs.Promised.Worlds.{World, view_of}
use Rattle.type_terms.specs.Promised.Rules.{Rule, rules, strict_supertraits}
use Rattle.type_terms.specs.Promised.Proofs.{In, Every, HasProof}
use Rattle.type_terms.specs.Promised.Walks.{is_known_in}
use Rattle.type_terms.specs.LinkedSet.{Unknown}
use Rattle.type_terms.proofs.Members.{not-both}
use Rattle.type_terms.proofs.WorkedProofs.{needs-rule}
use Rattle.type_terms.proofs.OpenWorld.{open-world}
use Rattle.type_terms.proofs.ViewKnown.{unknown-by-view}
use Rattle.type_terms.proofs.NoHolds.{supers-of-view}
use Rattle.candidate_model.specs.Knowing.{WhatIsKnownFollowsByTheView, SupertraitsByTheViewStand}
use Rattle.candidate_model.proofs.Elaborating.{every-in as each}
use Rattle.candidate_model.proofs.SoundObjects.{member-of as member}

pub known-by-view-rule : WhatIsKnownFollowsByTheView
known-by-view-rule W vs rank l c V e r z known p = by (open-world W vs rank l c r z u.0 u.1 u.2)
  where
    u : (u : Rule) × In u (rules W [] r) × Every (HasProof W []) u.premises
    u = needs-rule W [] r p

    by : In u.0 (rules (view_of W c) [] r) ⊎ Unknown W c r → (u : Rule) × In u (rules V [] r) × Every (HasProof W []) u.premises
    by (inl i) = (u.0, subst (λ (X : World). In u.0 (rules X [] r)) e i, u.2)
    by (inr g) = absurd (not-both (is_known_in V c r) known (subst (λ (X : World). is_known_in X c r ≡ false) e (unknown-by-view W (l.joined.fits.one_struct, l.joined.fits.one_trait) c r g.unknown)))

pub supers-by-view : SupertraitsByTheViewStand
supers-by-view W stand c V e r z p =
    subst (λ (X : World). Every (HasProof W []) (strict_supertraits X r)) e
    (each (HasProof W []) (strict_supertraits (view_of W c) r) (λ s i. member (HasProof W []) (strict_supertraits W r) s (stand r z p) (supers-of-view W c r s i)))
