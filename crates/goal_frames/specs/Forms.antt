-- The goals that a list of rules decides: canonical forms of goals without where-clauses.
use Rattle.std.specs.Prelude.{◌≡◌, Bool, true, false, Some}
use Rattle.type_terms.specs.Promised.Label.{Label, canonical}
use Rattle.type_terms.specs.Made.{terms, is_made}
use Rattle.infer_table.specs.Canonical.{canonical_form}
use Rattle.goal_frames.specs.Rules.{TraitBound, goal_of}
use Rattle.goal_frames.specs.Handlers.{BareGoal, bare_goal}

-- the labels of a goal before it is in canonical form
abbrev pub is_unnumbered : Label → Bool
is_unnumbered (canonical k i) = false
is_unnumbered l = true

-- a goal over a table's inference variables and placeholders has a canonical form that is decided, of the same trait
abbrev pub CanonicalGoalsAreAsked : Type 0
CanonicalGoalsAreAsked = (b : TraitBound) → is_made is_unnumbered terms b.arguments ≡ true → (a : BareGoal) × (bare_goal (canonical_form (goal_of b)) ≡ Some a) × (a.bound.trait ≡ b.trait)
