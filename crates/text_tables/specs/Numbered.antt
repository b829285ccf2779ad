-- How the declarations of a text are numbered, and how many there are: laws of every text's declarations.
use Rattle.std.specs.Prelude.{◌≡◌, ℕ, ◌<◌, true, List, length, Some, slice_get, All}
use Rattle.text_language.specs.Promised.Declarations.{Declarations, Check, of_later, of_supers}

-- P holds for each element with its index.
abbrev pub EachNumbered : {A : Type 0} → (ℕ → A → Type 0) → List A → Type 0
EachNumbered {A} P xs = (k : ℕ) (x : A) → slice_get xs k ≡ Some x → P k x

-- A check is of a crate that exists, or of a section and its crate.
abbrev pub IsCheckIn : Declarations → Check → Type 0
IsCheckIn d (of_later k c) = slice_get d.sections k ≡ Some c
IsCheckIn d (of_supers c) = c < length d.crates

-- A number is an index among all of the kind, with those of `core`, and a crate uses earlier crates alone. Each item belongs to a crate
-- that exists, and so does each query. Each section is of a crate that exists, and its impls are of that crate.
pub record IsNumbered (d : Declarations) : Type 0 where
  pub has_core : 0 < length d.crates
  pub crates : EachNumbered (λ k c. (c.item.name ≡ k) × All (λ u. u < k) c.item.uses) d.crates
  pub structs : EachNumbered (λ k s. (s.item.name ≡ k) × (s.item.home < length d.crates)) d.structs
  pub traits : EachNumbered (λ k t. (t.item.name ≡ k) × (t.item.home < length d.crates)) d.traits
  pub impls : EachNumbered (λ k i. (i.item.name ≡ k) × (i.item.home < length d.crates)) d.impls
  pub questions : EachNumbered (λ k q. q.asker < length d.crates) d.questions
  pub sections : EachNumbered (λ k c. c < length d.crates) d.sections
  pub later_impls : EachNumbered (λ k i. slice_get d.sections i.section ≡ Some i.added.item.home) d.later_impls
  pub checks : EachNumbered (λ k c. IsCheckIn d c) d.checks
  pub has_section : d.in_section ≡ true → 0 < length d.sections

-- fewer than k of each
pub record IsFew (d : Declarations) (k : ℕ) : Type 0 where
  pub few_crates : length d.crates < k
  pub few_structs : length d.structs < k
  pub few_traits : length d.traits < k
  pub few_impls : length d.impls < k
  pub few_questions : length d.questions < k
  pub few_sections : length d.sections < k
  pub few_later : length d.later_impls < k
