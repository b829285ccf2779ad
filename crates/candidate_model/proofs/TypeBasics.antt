-- Small facts on the types of the code.
use Rattle.std.proofs.Common.{Bool, ◌≡◌, Some, true, refl, false}
use Rattle.candidate_model.specs.Asking.{GoalOverKinds, asked_if}

pub if-asked : (b : Bool) (a c : GoalOverKinds) → asked_if b a ≡ Some c → (b ≡ true) × (a ≡ c)
if-asked true a c e = (refl, some-is e)
  where
    some-is : Some a ≡ Some c → a ≡ c
    some-is f = cc
if-asked false a c e = absurd (cc)
