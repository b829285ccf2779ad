-- The checks and queries of a text, grouped by their crates, by their indices.
use Rattle.std.specs.Prelude.{◌≡◌, ℕ, ◌<◌, List, length, Some, slice_get}
use Rattle.sessions.specs.TextLanguage.Promised.Declarations.{Declarations, Check, of_later, of_supers, Question}
use Rattle.coherence.specs.declared.groups.Group.{Group}

-- The crate that is checked.
abbrev pub checked_crate : Check → ℕ
checked_crate (of_later k c) = c
checked_crate (of_supers c) = c

-- The check at index k is of crate c.
abbrev pub IsCheckedIn : Declarations → ℕ → ℕ → Type 0
IsCheckedIn d c k = (x : Check) × (slice_get d.checks k ≡ Some x) × (checked_crate x ≡ c)

-- The query at index k is of crate c.
abbrev pub IsAskedIn : Declarations → ℕ → ℕ → Type 0
IsAskedIn d c k = (q : Question) × (slice_get d.questions k ≡ Some q) × (q.asker ≡ c)

-- These are the indices below n at which Of holds.
pub record ArePlacesWhere (n : ℕ) (Of : ℕ → Type 0) (places : List ℕ) : Type 0 where
  pub only : (i k : ℕ) → slice_get places i ≡ Some k → Of k
  pub all : (k : ℕ) → k < n → Of k → (i : ℕ) × (slice_get places i ≡ Some k)

-- Of the first m checks and the first n queries, these are crate c's.
pub record IsGroup (m n : ℕ) (d : Declarations) (c : ℕ) (g : Group) : Type 0 where
  pub checks : ArePlacesWhere m (IsCheckedIn d c) g.checks.items
  pub questions : ArePlacesWhere n (IsAskedIn d c) g.questions.items

-- A group for each crate, of the first m checks and the first n queries.
pub record AreGroups (m n : ℕ) (d : Declarations) (groups : List Group) : Type 0 where
  pub for_each : length groups ≡ length d.crates
  pub are : (c : ℕ) (g : Group) → slice_get groups c ≡ Some g → IsGroup m n d c g
