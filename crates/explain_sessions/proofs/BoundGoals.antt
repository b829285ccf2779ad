-- The goals of a query's bounds, by their numbers.
use Rattle.std.proofs.Common.{◌≡◌, ◌<◌, ℕ, List, length, get_or, sym, subst}
use Rattle.fulfillment.specs.Obligations.{ObligationsHeld}
use Rattle.fulfillment.specs.declared.obligation.Obligation.{Obligation}
use Rattle.sessions.specs.InferTable.Goals.{GoalHeld}
use Rattle.sessions.specs.TypeTerms.Promised.Handles.{Entry}

-- the goal of the obligation at k, where os are also read as xs
pub goal-there : (es : List Entry) (os xs : List Obligation) → xs ≡ os → (k : ℕ) (o : Obligation) → ObligationsHeld es os → k < length xs → o ≡ get_or xs k o → GoalHeld es o.goal
goal-there es os xs e k o h within is =
    let held : ObligationsHeld es xs = subst (ObligationsHeld es) (sym e) h in
    subst (λ (x : Obligation). GoalHeld es x.goal) (sym is) (held k o within)
