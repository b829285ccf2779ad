-- Equal numbers are the same number, and equal results are the same result.
use Rattle.std.proofs.Common.{◌≡◌, true, refl, ap, Option, Some, None}
use Rattle.std.specs.Option.{option_eq}
use Rattle.goal_frames.specs.declared.store.ResponseId.{ResponseId}
use Rattle.goal_frames.specs.contracts.store.ResponseIdPartialEq.TheImpl.{ghosts as response}
use Rattle.goal_frames.proofs.Numbers.{equal-response-ids}

pub same-result : (a b : Option ResponseId) → option_eq response.eq a b ≡ true → a ≡ b
same-result None None e = refl
same-result None (Some b) e = cc
same-result (Some a) None e = cc
same-result (Some a) (Some b) e = ap Some (equal-response-ids a b e)
