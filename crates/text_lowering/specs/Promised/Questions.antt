-- Queries of a text, and their terms.
use Rattle.std.specs.Prelude.{◌≡◌, ℕ, List, map, Some, slice_get, ◌≤◌, ◌-◌}
use Rattle.type_terms.specs.Promised.Label.{Sort}
use Rattle.text_language.specs.Promised.Declarations.{Declarations, Question}

-- The kinds of a query's variables, in their order.
abbrev pub variable_kinds : Question → List Sort
variable_kinds q = map (λ v. v.kind) q.variables

-- Query number n of the text, counted from 1, is q.
pub record IsQuestion (d : Declarations) (n : ℕ) (q : Question) : Type 0 where
  pub counted : 1 ≤ n
  pub there : slice_get d.questions (n - 1) ≡ Some q
