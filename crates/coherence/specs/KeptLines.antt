-- Lines that are stored: definitions for the crate's own functions.
use Rattle.std.specs.Prelude.{◌≡◌, ℕ, ◌+◌, ◌<◌, List, length, Option, Some, IfSome, slice_get}
use Rattle.sessions.specs.TextLanguage.Promised.Declarations.{Declarations, Check, of_supers, Question}
use Rattle.sessions.specs.TextLanguage.Output.{Answer, output_text}
use Rattle.sessions.specs.Verdicts.{Verdict, accepted, orphan, overlap}
use Rattle.coherence.specs.Groups.{IsAskedIn, IsCheckedIn}
use Rattle.coherence.specs.Lines.{IsCheckLine, IsQuestionLine}
use Rattle.coherence.specs.declared.kept.KeptLine.{KeptLine}
use Rattle.coherence.specs.declared.kept.KeptLines.{KeptLines}

-- The impls that a verdict names exist.
abbrev pub NamesImpls : Declarations → Verdict → Type 0
NamesImpls d accepted = Unit {0}
NamesImpls d (orphan k e) = k < length d.impls
NamesImpls d (overlap k j) = (k < length d.impls) × (j < length d.impls)

-- ---- the line of query q, which has number n, is this text
abbrev pub HasLine : ℕ → Declarations → ℕ → Question → List ℕ → Type 0
HasLine limit d n q text = (l : Answer) × IsQuestionLine limit d n q l × (text ≡ output_text l)

-- The same for the query at index n, counted from 0.
abbrev pub IsLineOf : ℕ → Declarations → ℕ → List ℕ → Type 0
IsLineOf limit d n text = (q : Question) × (slice_get d.questions n ≡ Some q) × HasLine limit d (n + 1) q text

-- ---- the line of a check is this text
abbrev pub HasCheckLine : ℕ → Declarations → Check → List ℕ → Type 0
HasCheckLine limit d x text = (l : Answer) × IsCheckLine limit d x l × (text ≡ output_text l)

-- The same for the check at index n, counted from 0.
abbrev pub IsCheckLineOf : ℕ → Declarations → ℕ → List ℕ → Type 0
IsCheckLineOf limit d n text = (x : Check) × (slice_get d.checks n ≡ Some x) × HasCheckLine limit d x text

-- What is stored, if it is, is the line of each `supers` check of crate c.
abbrev pub IsSupersLine : ℕ → Declarations → ℕ → Option KeptLine → Type 0
IsSupersLine limit d c line = IfSome line (λ l. HasCheckLine limit d (of_supers c) l.text.items)

-- ---- lines that are stored
abbrev pub IsKeptLine : (ℕ → List ℕ → Type 0) → List KeptLine → ℕ → Type 0
IsKeptLine Line lines n = (l : KeptLine) × (slice_get lines n ≡ Some l) × Line n l.text.items

-- The line that is stored at index n.
abbrev pub HasKeptLineAt : List KeptLine → ℕ → List ℕ → Type 0
HasKeptLineAt lines n text = (l : KeptLine) × (slice_get lines n ≡ Some l) × (text ≡ l.text.items)

-- There is room for m lines, and those of the first c crates are stored.
pub record KeepsEach (m : ℕ) (Of : ℕ → ℕ → Type 0) (Line : ℕ → List ℕ → Type 0) (c : ℕ) (lines : List KeptLine) : Type 0 where
  pub for_each : length lines ≡ m
  pub are : (b n : ℕ) → b < c → Of b n → IsKeptLine Line lines n

-- The same for checks, and for queries.
abbrev pub KeepsChecks : ℕ → Declarations → ℕ → List KeptLine → Type 0
KeepsChecks limit d c lines = KeepsEach (length d.checks) (IsCheckedIn d) (IsCheckLineOf limit d) c lines

abbrev pub KeepsQuestions : ℕ → Declarations → ℕ → List KeptLine → Type 0
KeepsQuestions limit d c lines = KeepsEach (length d.questions) (IsAskedIn d) (IsLineOf limit d) c lines

pub record KeepsLines (limit : ℕ) (d : Declarations) (c : ℕ) (lines : KeptLines) : Type 0 where
  pub checks : KeepsChecks limit d c lines.checks.items
  pub questions : KeepsQuestions limit d c lines.questions.items
