-- What a crate can know about trait references in a linked set.
use Rattle.std.specs.Prelude.{◌≡◌, ℕ, true, IsTrue, List, []}
use Rattle.type_terms.specs.Promised.Worlds.{World, Reference, view_of}
use Rattle.type_terms.specs.Promised.Rules.{Rule, rules, strict_supertraits}
use Rattle.type_terms.specs.Promised.Proofs.{In, Every, HasProof}
use Rattle.type_terms.specs.Promised.Walks.{is_known_in}
use Rattle.type_terms.specs.Promised.Answers.{is_closed}
use Rattle.type_terms.specs.Promised.Renumbering.{View}
use Rattle.type_terms.specs.Promised.LinkedSet.{LinkedSet}
-- A trait reference, which may have variables, is knowable if no other crate can have an impl for an instance of it.
pub use Rattle.orphan_check.specs.Knowing.{is_knowable}

-- The strict supertraits of what has a proof have proofs.
abbrev pub SupersStand : World → Type 0
SupersStand W = (r : Reference) → IsTrue (is_closed r.args) → HasProof W [] r → Every (HasProof W []) (strict_supertraits W r)

-- If a trait reference is knowable to c and has a proof in the set, it follows by a rule of c's view whose premises have proofs.
abbrev pub WhatIsKnownFollowsByTheView : Type 0
WhatIsKnownFollowsByTheView =
    (W : World) (vs : List View) (rank : ℕ → ℕ) → LinkedSet W vs rank
    → (c : ℕ) (V : World) → view_of W c ≡ V → (r : Reference) → IsTrue (is_closed r.args) → is_known_in V c r ≡ true → HasProof W [] r
    → (u : Rule) × In u (rules V [] r) × Every (HasProof W []) u.premises

-- The supertraits by the view have proofs, whether the trait reference is knowable or not.
abbrev pub SupertraitsByTheViewStand : Type 0
SupertraitsByTheViewStand =
    (W : World) → SupersStand W → (c : ℕ) (V : World) → view_of W c ≡ V → (r : Reference) → IsTrue (is_closed r.args) → HasProof W [] r
    → Every (HasProof W []) (strict_supertraits V r)
