-- Obligations: goals that were registered, and how they stand.
use Rattle.std.specs.Prelude.{◌≡◌, ◌≤◌, ◌+◌, ◌-◌, ◌*◌, ◌⊎◌, ℕ, zero, suc, List, [], ◌∷◌, ◌++◌, length, map, sum_by, take, All, Any}
use Rattle.std.specs.List.{AllZip}
use Rattle.type_terms.specs.Promised.Handles.{Entry}
use Rattle.infer_table.specs.Canonical.{GoalTrees}
use Rattle.infer_table.specs.Goals.{GoalHeld, goal_trees}
use Rattle.infer_table.specs.declared.certainty.MaybeCause.{MaybeCause}
use Rattle.infer_table.specs.declared.certainty.MaybeCause.TheVariants.{Ambiguity, Overflow}
use Rattle.infer_table.specs.declared.goal.Goal.{Goal}
use Rattle.fulfillment.specs.declared.evaluating.Answer.{Answer}
use Rattle.fulfillment.specs.declared.evaluating.Answer.TheVariants.{Holds, Narrows, IsOpen, IsRefused}
use Rattle.fulfillment.specs.declared.obligation.Obligation.{Obligation}
use Rattle.fulfillment.specs.declared.obligation.ObligationId.{ObligationId}
use Rattle.fulfillment.specs.declared.obligation.Standing.{Standing}
use Rattle.fulfillment.specs.declared.obligation.Standing.TheVariants.{Pending, Done, Refused}
use Rattle.fulfillment.specs.declared.obligation.Step.{Step}
use Rattle.fulfillment.specs.declared.obligation.Step.TheVariants as step
use Rattle.fulfillment.specs.declared.obligation.Stood.{Stood}

abbrev pub standing_of : Obligation → Standing
standing_of o = o.standing

-- the goals as trees, in the order in which they were registered
abbrev pub trees_of_goals : List Entry → List Obligation → List GoalTrees
trees_of_goals es os = map (λ (o : Obligation). goal_trees es o.goal) os

-- the handles of all goals are of this interner
abbrev pub ObligationsHeld : List Entry → List Obligation → Type 0
ObligationsHeld es os = All (λ (o : Obligation). GoalHeld es o.goal) os

-- how many more answers to all goals together may have values
abbrev pub total_left : List Obligation → ℕ
total_left os = sum_by (λ (o : Obligation). o.left) os

-- how many evaluations of goals they take at most
abbrev pub most_evaluations : List Obligation → ℕ
most_evaluations os = length os * (total_left os + 1)

-- The goal is the same, what is done stays done, and no more answers with values are allowed than before.
pub record ObligationIsKept (o p : Obligation) : Type 0 where
  pub goal : p.goal ≡ o.goal
  pub done : o.standing ≡ Done → p.standing ≡ Done
  pub left : p.left ≤ o.left

-- the obligation is done, or no more of its answers may have values
abbrev pub ObligationIsSettled : Obligation → Type 0
ObligationIsSettled o = (o.standing ≡ Done) ⊎ (o.left ≡ 0)

-- some obligation is not done, and no more of its answers may have values
abbrev pub SomeIsSpent : List Obligation → Type 0
SomeIsSpent os = Any (λ (o : Obligation). (o.standing ≡ Done → ⊥) × (o.left ≡ 0)) os

-- The goal was registered behind the others, with this number. It is pending, and as many of its answers as the limit says may have values.
abbrev pub IsRegistered : List Obligation → ℕ → Goal → ObligationId → List Obligation → Type 0
IsRegistered os limit goal id ps =
    (id.index ≡ length os) × (ps ≡ os ++ (record { goal = goal; standing = Pending Ambiguity; left = limit }) ∷ [])

-- ---- one evaluation
-- An answer with values leaves the goal pending: it is evaluated again, or was as often as is allowed.
abbrev pub cause_with : ℕ → MaybeCause
cause_with zero = Overflow
cause_with (suc n) = Ambiguity

-- the obligation after its goal has had this answer
abbrev pub noted : Obligation → Answer → Obligation
noted o Holds = record o { standing = Done }
noted o Narrows = record o { standing = Pending (cause_with (o.left - 1)); left = o.left - 1 }
noted o (IsOpen cause) = record o { standing = Pending cause }
noted o IsRefused = record o { standing = Refused }

-- and what that comes to
abbrev pub step_of : Answer → Step
step_of Holds = step.Quiet
step_of Narrows = step.Narrowed
step_of (IsOpen cause) = step.Quiet
step_of IsRefused = step.Refused

-- ---- snapshots
abbrev pub stood_of : Obligation → Stood
stood_of o = record { standing = o.standing; left = o.left }

-- the obligation, standing as it stood
abbrev pub standing_as : Obligation → Stood → Obligation
standing_as o s = record o { standing = s.standing; left = s.left }

-- The first goals are the same. Others may have been registered behind them.
abbrev pub HaveGrown : List Obligation → List Obligation → Type 0
HaveGrown os ps = AllZip (λ (o p : Obligation). p.goal ≡ o.goal) os (take (length os) ps)
