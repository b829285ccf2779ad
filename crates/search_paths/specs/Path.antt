-- Kinds of steps, and of the paths that they make.
use Rattle.std.specs.Prelude.{◌≡◌, ◌+◌, ◌^◌, ◌↔◌, ℕ, Bool, true, false, Option, Some, None}
use Rattle.std.specs.Int.{bit_at}
use Rattle.search_paths.specs.declared.path_kind.PathKind.{PathKind}
use Rattle.search_paths.specs.declared.path_kind.PathKind.TheVariants.{Inductive, Unknown, Coinductive, ForcedAmbiguity}

-- the position of a kind in the order
abbrev pub rank : PathKind → ℕ
rank Inductive = 0
rank Unknown = 1
rank Coinductive = 2
rank ForcedAmbiguity = 3

-- whether a step is coinductive
abbrev pub is_coinductive_path : PathKind → Bool
is_coinductive_path Inductive = false
is_coinductive_path Unknown = false
is_coinductive_path Coinductive = true
is_coinductive_path ForcedAmbiguity = false

-- the greater of two kinds
abbrev pub greater : PathKind → PathKind → PathKind
greater Inductive k = k
greater Unknown Inductive = Unknown
greater Unknown Unknown = Unknown
greater Unknown Coinductive = Coinductive
greater Unknown ForcedAmbiguity = ForcedAmbiguity
greater Coinductive Inductive = Coinductive
greater Coinductive Unknown = Coinductive
greater Coinductive Coinductive = Coinductive
greater Coinductive ForcedAmbiguity = ForcedAmbiguity
greater ForcedAmbiguity k = ForcedAmbiguity

-- A path is represented by the greatest kind of its steps, and the path without a step by None.
-- This is the kind of a path that is extended by a step of the kind k
abbrev pub after : Option PathKind → PathKind → PathKind
after None k = k
after (Some j) k = greater j k

-- the index of a path's bit
abbrev pub flag_of : Option PathKind → ℕ
flag_of None = 0
flag_of (Some k) = 1 + rank k

-- A set of paths is a number with a bit for each. The set has this path
abbrev pub HasPath : ℕ → Option PathKind → Type 0
HasPath paths path = bit_at paths (flag_of path) ≡ 1

-- the set with this path alone
abbrev pub only : Option PathKind → ℕ
only path = 2 ^ flag_of path

-- The second set has exactly the paths of the first, each extended by a step of the kind k
abbrev pub AreExtendedBy : PathKind → ℕ → ℕ → Type 0
AreExtendedBy k paths longer = (path : Option PathKind) → HasPath longer path ↔ ((shorter : Option PathKind) × HasPath paths shorter × (path ≡ Some (after shorter k)))

-- The third set has the paths of the second, each extended by a step of the kind k, if the first has the path of that kind
abbrev pub AreExtendedWhere : ℕ → PathKind → ℕ → ℕ → Type 0
AreExtendedWhere kinds k paths longer = (path : Option PathKind) → HasPath longer path ↔ (HasPath kinds (Some k) × (shorter : Option PathKind) × HasPath paths shorter × (path ≡ Some (after shorter k)))

-- the path is one of the second set, extended by one of the first
abbrev pub IsExtended : ℕ → ℕ → Option PathKind → Type 0
IsExtended kinds paths path = (k : PathKind) × HasPath kinds (Some k) × (shorter : Option PathKind) × HasPath paths shorter × (path ≡ Some (after shorter k))

-- the third set has exactly these paths
abbrev pub AreExtendedByEach : ℕ → ℕ → ℕ → Type 0
AreExtendedByEach kinds paths longer = (path : Option PathKind) → HasPath longer path ↔ IsExtended kinds paths path
