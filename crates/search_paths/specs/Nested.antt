-- Ranges of goals.
use Rattle.std.specs.Prelude.{◌≡◌, ◌-◌, ◌^◌, ◌≤◌, ◌++◌, ◌∷◌, [], ℕ, min, max}
use Rattle.search_paths.specs.declared.nested_goals.Span.{Span}
use Rattle.search_paths.specs.declared.nested_goals.NestedGoals.{NestedGoals}

-- the range contains this number
abbrev pub IsWithin : Span → ℕ → Type 0
IsWithin span number = (span.lowest ≤ number) × (number ≤ span.highest)

-- the range of no goal
abbrev pub no_goal : Span
no_goal = record { lowest = 2 ^ 64 - 1; highest = 0 }

-- the range of one goal
abbrev pub one_goal : ℕ → Span
one_goal number = record { lowest = number; highest = number }

-- the least range with all goals of both
abbrev pub covered : Span → Span → Span
covered a b = record { lowest = min a.lowest b.lowest; highest = max a.highest b.highest }

-- the goal of this number was evaluated, and nothing else
abbrev pub AsksAlone : ℕ → NestedGoals → Type 0
AsksAlone number nested = (nested.goals.items ≡ number ∷ []) × (nested.cached.items ≡ []) × (nested.span ≡ covered no_goal (one_goal number))

-- the stored result with this index was used, and nothing else
abbrev pub UsesAlone : ℕ → NestedGoals → Type 0
UsesAlone place nested = (nested.goals.items ≡ []) × (nested.cached.items ≡ place ∷ [])

-- the goal of this number is added to the first ones
abbrev pub AlsoAsks : NestedGoals → ℕ → NestedGoals → Type 0
AlsoAsks nested number more = (more.goals.items ≡ nested.goals.items ++ number ∷ []) × (more.cached ≡ nested.cached)
