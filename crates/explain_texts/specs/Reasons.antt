-- For which reasons a goal may be said not to be refused.
use Rattle.std.specs.Prelude.{◌≡◌, ℕ, true, Some}
use Rattle.explain_texts.specs.Claimed.{claimed_adder, claimed_unseen, claims_held}
use Rattle.explain_texts.specs.declared.reasons.Reason.{Reason}
use Rattle.explain_texts.specs.declared.reasons.Reason.TheVariants.{Holds, Added, Unknown}
use Rattle.explain_texts.specs.declared.story.Story.{Story}

-- What the reason says of the goal at index p as checked is claimed.
abbrev pub IsClaimed : Story → ℕ → Reason → Type 0
IsClaimed s p Holds = claims_held s p ≡ true
IsClaimed s p (Added a) = claimed_adder s p ≡ Some a
IsClaimed s p (Unknown c) = claimed_unseen s p ≡ Some (Some c)
IsClaimed s p r = Unit {0}
