-- The goals of the stack that results depend on.
use Rattle.std.specs.Prelude.{◌≡◌, ◌==◌, ◌↔◌, ◌⊎◌, ℕ, List, [], ◌∷◌, Option, Some, slice_get, position, if◌then◌else◌}
use Rattle.std.specs.Int.RustNames.{bit_or}
use Rattle.std.specs.Global.{Vec}
use Rattle.search_paths.specs.declared.path_kind.PathKind.{PathKind}
use Rattle.search_paths.specs.declared.dependencies.CycleHead.{CycleHead}
use Rattle.search_paths.specs.Path.{HasPath, IsExtended}
use Rattle.search_paths.specs.KeptPaths.{indices}

-- the index is that of one of the heads
abbrev pub IsHead : ℕ → List ℕ → Type 0
IsHead place [] = ⊥
IsHead place (head ∷ heads) = (place ≡ head) ⊎ IsHead place heads

-- the set of the paths by which the result of the goal with this index was read
abbrev pub paths_to : List CycleHead → ℕ → ℕ
paths_to [] place = 0
paths_to (head ∷ heads) place = if head.index == place then bit_or head.paths.0 (paths_to heads place) else paths_to heads place

-- those of the first head in the list that is this goal
abbrev pub first_paths : List CycleHead → ℕ → ℕ
first_paths [] place = 0
first_paths (head ∷ heads) place = if head.index == place then head.paths.0 else first_paths heads place

-- those of all of these lists
abbrev pub paths_in : List (Vec CycleHead) → ℕ → ℕ
paths_in [] place = 0
paths_in (heads ∷ more) place = bit_or (paths_to heads.items place) (paths_in more place)

-- the goal with this index is one of the heads
abbrev pub RestsOn : List CycleHead → ℕ → Type 0
RestsOn heads place = IsHead place (indices heads)

-- the head is the first in the list for its goal
abbrev pub IsFirstOf : List CycleHead → CycleHead → Type 0
IsFirstOf heads head = (place : ℕ) × (position (λ other. other.index == head.index) heads ≡ Some place) × (slice_get heads place ≡ Some head)

-- the last list has the heads of both
abbrev pub AreHeadsOfBoth : List CycleHead → List CycleHead → List CycleHead → Type 0
AreHeadsOfBoth one other both = (place : ℕ) → RestsOn both place ↔ (RestsOn one place ⊎ RestsOn other place)

-- the second list has no heads but those of the first and the goal with this index
abbrev pub AreHeadsBut : ℕ → List ℕ → List ℕ → Type 0
AreHeadsBut place less heads = (other : ℕ) → IsHead other heads → (other ≡ place) ⊎ IsHead other less

-- the last list has the paths of both
abbrev pub AreReadByBoth : List CycleHead → List CycleHead → List CycleHead → Type 0
AreReadByBoth one other both = (place : ℕ) → paths_to both place ≡ bit_or (paths_to one place) (paths_to other place)

-- the last list has the paths of the first, and those of the second, each followed by one of these paths
abbrev pub AreReadThrough : ℕ → List CycleHead → List CycleHead → List CycleHead → Type 0
AreReadThrough paths one other both = (place : ℕ) (path : Option PathKind) → HasPath (paths_to both place) path ↔ (HasPath (paths_to one place) path ⊎ IsExtended paths (paths_to other place) path)
