-- The lines of items.
use Rattle.std.specs.Prelude.{◌≡◌, ℕ, ◌+◌, ◌<◌, ◌≤◌, Bool, true, false, not, List, [], ◌∷◌, ◌++◌, length, map, Option, Some, None, slice_get}
use Rattle.explain_diagnostics.specs.declared.span.Span.{Span}
use Rattle.explain_texts.specs.declared.lines.ImplLine.{ImplLine}
use Rattle.explain_texts.specs.declared.lines.ItemLines.{ItemLines}
use Rattle.explain_texts.specs.declared.lines.QuestionLine.{QuestionLine}

-- The numbers of the lines, one for each span.
abbrev pub line_numbers : List Span → List ℕ
line_numbers = map (λ (s : Span). s.line)

-- The numbers of the lines of impls.
abbrev pub impl_numbers : List ImplLine → List ℕ
impl_numbers = map (λ (i : ImplLine). i.line)

-- The numbers of the lines of queries.
abbrev pub question_numbers : List QuestionLine → List ℕ
question_numbers = map (λ (q : QuestionLine). q.line)

-- This number behind the others, if the line belongs there.
abbrev pub with_number : Bool → List ℕ → ℕ → List ℕ
with_number true ns n = ns ++ n ∷ []
with_number false ns n = ns

-- The line of an impl is added to those of crates, or to those of sections while a section is open.
pub record AddsImplLine (old new : ItemLines) (n : ℕ) : Type 0 where
  pub own : impl_numbers new.impls.items ≡ with_number (not old.in_section) (impl_numbers old.impls.items) n
  pub added : impl_numbers new.added.items ≡ with_number old.in_section (impl_numbers old.added.items) n

-- Of all items those of the text come last, behind those of `core`. This is the line of the item with this number, or it is none of the text's.
abbrev pub IsItemLine : {A : Type 0} → ℕ → List A → ℕ → Option A → Type 0
IsItemLine all lines n (Some line) = (k : ℕ) × (slice_get lines k ≡ Some line) × (n + length lines ≡ all + k)
IsItemLine all lines n None = length lines ≤ all → n < all → n + length lines < all
