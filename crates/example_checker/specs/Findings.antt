-- What the example promises of a query, in the terms of the library's lines.
use Rattle.std.specs.Prelude.{◌≡◌, ◌⊎◌, ℕ, ◌-◌, List, Some, slice_get}
use Rattle.coherence.specs.TextLanguage.Promised.Declarations.{Declarations, Question}
use Rattle.coherence.specs.TextLanguage.Output.{Answer, ValueText, yes, maybe, unproved, no, unrefuted}
use Rattle.coherence.specs.Lines.{IsQuestionLine}
use Rattle.example_checker.specs.declared.Finding.{Finding}
use Rattle.example_checker.specs.declared.Finding.TheVariants.{Holds, NeverHolds, Unknown}

-- The line says neither `yes` nor `no`.
abbrev pub LeavesOpen : ℕ → Answer → Type 0
LeavesOpen n l = ((values : List ValueText) × (l ≡ maybe n values)) ⊎ (l ≡ unproved n) ⊎ (l ≡ unrefuted n)

-- Of query number n, from 1. `Holds`: `yes` with some values is its right line. `NeverHolds`: `no` is. `Unknown`: one that says neither.
abbrev pub IsFound : ℕ → Declarations → ℕ → Finding → Type 0
IsFound limit d n Holds = (q : Question) × (values : List ValueText) × (slice_get d.questions (n - 1) ≡ Some q) × IsQuestionLine limit d n q (yes n values)
IsFound limit d n NeverHolds = (q : Question) × (slice_get d.questions (n - 1) ≡ Some q) × IsQuestionLine limit d n q (no n)
IsFound limit d n Unknown = (q : Question) × (l : Answer) × (slice_get d.questions (n - 1) ≡ Some q) × LeavesOpen n l × IsQuestionLine limit d n q l
