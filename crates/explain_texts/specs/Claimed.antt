-- What is claimed of a story's goals: what may be said of them without the mark of what was not checked.
use Rattle.std.specs.Prelude.{◌≡◌, ℕ, Bool, true, ◌==◌, ◌&&◌, List, find, Option, Some, None}
use Rattle.std.specs.List.{list_any, slice_get}
use Rattle.std.specs.Option.{option_map}
use Rattle.explain_sessions.specs.ExplainTraces.declared.nodes.Node.{Node}
use Rattle.explain_sessions.specs.ExplainTraces.declared.nodes.Standing.{Standing}
use Rattle.explain_sessions.specs.ExplainTraces.declared.nodes.Standing.TheVariants.{Same, Cut}
use Rattle.explain_sessions.specs.OrphanCheck.declared.errors.Conflict.{Conflict}
use Rattle.explain_sessions.specs.declared.adding.Adder.{Adder}
use Rattle.explain_sessions.specs.declared.claims.Claims.{Claims}
use Rattle.explain_texts.specs.declared.links.CandidateLink.{CandidateLink}
use Rattle.explain_texts.specs.declared.story.Story.{Story}

abbrev pub claims_of : Story → Claims
claims_of s = s.claims.now

-- How a goal is displayed. One that is not there is cut.
abbrev pub standing_of : Option Node → Standing
standing_of None = Cut
standing_of (Some n) = n.standing

abbrev pub goal_standing : Story → ℕ → Standing
goal_standing s p = standing_of (slice_get s.walk.now.nodes.items p)

-- The index at which the goal at index p has its candidates: its own, or that of the same goal.
abbrev pub candidates_place : Standing → ℕ → ℕ
candidates_place (Same earlier) p = earlier
candidates_place x p = p

abbrev pub shown_place : Story → ℕ → ℕ
shown_place s p = candidates_place (goal_standing s p) p

-- The goal at index p is among these, or its candidate n.
abbrev pub names_goal : List ℕ → ℕ → Bool
names_goal xs p = list_any (λ x. x == p) xs

abbrev pub names_candidate : List (ℕ × ℕ) → Story → ℕ → ℕ → Bool
names_candidate xs s p n = list_any (λ x. (x.0 == shown_place s p) && (x.1 == n)) xs

-- Of candidate n of the goal at index p: it is a rule; it may apply.
abbrev pub claims_rule : Story → ℕ → ℕ → Bool
claims_rule s = names_candidate (claims_of s).candidates.rules.items s

abbrev pub claims_chance : Story → ℕ → ℕ → Bool
claims_chance s = names_candidate (claims_of s).candidates.chances.items s

-- Of the goal at index p: no linked crate can prove it; it has a proof; which crates outside the view may have an impl; who may write one.
abbrev pub claims_refused : Story → ℕ → Bool
claims_refused s = names_goal (claims_of s).refused.items

abbrev pub claims_held : Story → ℕ → Bool
claims_held s = names_goal (claims_of s).held.items

abbrev pub claimed_unseen : Story → ℕ → Option (Option Conflict)
claimed_unseen s p = option_map (λ x. x.1) (find (λ x. x.0 == p) (claims_of s).unseen.items)

abbrev pub claimed_adder : Story → ℕ → Option Adder
claimed_adder s p = option_map (λ x. x.1) (find (λ x. x.0 == p) (claims_of s).adders.items)

-- If the link says that its candidate is a rule, that is claimed of a candidate of the goal at index p.
abbrev pub IsClaimedLink : Story → ℕ → CandidateLink → Type 0
IsClaimedLink s p x = x.is_rule ≡ true → (n : ℕ) × (claims_rule s p n ≡ true)
