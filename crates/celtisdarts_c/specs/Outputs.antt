-- The output for a text, and the status of its kind.
use Rattle.std.specs.Prelude.{◌≡◌, ℕ, List}
use Rattle.coherence.specs.Promised.Told.{IsToldText}
use Rattle.coherence.specs.declared.status.Status.{Status}
use Rattle.coherence.specs.declared.status.Status.TheVariants as statuses

-- 0 for answers, 1 for the line of the text's first fault
abbrev pub status_word : Status → ℕ
status_word statuses.Done = 0
status_word statuses.TextFault = 1

-- the output for the text at this depth, with this status
abbrev pub IsOutput : ℕ → List ℕ → ℕ → List ℕ → Type 0
IsOutput depth text word output = (status : Status) × IsToldText depth text status output × (word ≡ status_word status)

-- the output for the text at this depth, with any status
abbrev pub IsSomeOutput : ℕ → List ℕ → List ℕ → Type 0
IsSomeOutput depth text output = (word : ℕ) × IsOutput depth text word output
