-- The output for a text, line by line.
use Rattle.std.specs.Prelude.{◌≡◌, ℕ, ◌+◌, ◌-◌, ◌<◌, ◌⊎◌, Bool, true, false, List, length, Option, Some, None, Result, Ok, Err, slice_get, refl}
use Rattle.std.specs.Coded.{Coded, code_by, coded_ℕ, coded_bool, coded×, coded_result}
use Rattle.sessions.specs.TextLanguage.Promised.Declarations.{Declarations, Check, Question}
use Rattle.sessions.specs.TextLanguage.Output.{Answer, fault, output_text}
use Rattle.sessions.specs.TextTables.Stored.{declarations_code}
use Rattle.sessions.specs.Promised.Promises.{IsVerdictOf}
use Rattle.sessions.specs.Verdicts.{Verdict}
use Rattle.coherence.specs.Lines.{verdict_line, IsCheckLine, IsQuestionLine}

-- How many lines there are for what a text gives: declarations, or its first fault.
abbrev pub line_count : Result Declarations (ℕ × ℕ) → ℕ
line_count (Ok d) = length d.crates - 1 + length d.checks + length d.questions
line_count (Err f) = 1

-- Line n for these declarations, counted from 0, is right. Lines of the crates but `core` come first, then those of checks, and then those
-- of queries.
pub data IsAnswerOf (limit : ℕ) (d : Declarations) : ℕ → Answer → Type 0 where
  of_crate : (n : ℕ) (v : Verdict) → n < length d.crates - 1 → IsVerdictOf limit d (n + 1) v → IsAnswerOf limit d n (verdict_line d (n + 1) v)
  of_check : (n : ℕ) (x : Check) (l : Answer) → slice_get d.checks n ≡ Some x → IsCheckLine limit d x l → IsAnswerOf limit d (length d.crates - 1 + n) l
  of_question : (n : ℕ) (q : Question) (l : Answer) → slice_get d.questions n ≡ Some q → IsQuestionLine limit d (n + 1) q l
      → IsAnswerOf limit d (length d.crates - 1 + length d.checks + n) l

-- The same for what a text gives. The line of a fault is the only one.
abbrev pub IsAnswerAt : ℕ → Result Declarations (ℕ × ℕ) → ℕ → Answer → Type 0
IsAnswerAt limit (Ok d) n l = IsAnswerOf limit d n l
IsAnswerAt limit (Err f) n l = (n ≡ 0) × (l ≡ fault f.0 f.1)

-- Line n as text.
abbrev pub IsLineAt : ℕ → Result Declarations (ℕ × ℕ) → ℕ → List ℕ → Type 0
IsLineAt limit t n text = (l : Answer) × IsAnswerAt limit t n l × (text ≡ output_text l)

-- The line of a crate.
abbrev pub IsVerdictLine : ℕ → Declarations → ℕ → List ℕ → Type 0
IsVerdictLine limit d c text = (v : Verdict) × IsVerdictOf limit d c v × (text ≡ output_text (verdict_line d c v))

-- The next of `count` lines is given, and counted. Or none is left, or none could be made.
abbrev pub CountsLine : {A E : Type 0} → ℕ → ℕ → ℕ → Result (Option A) E → Type 0
CountsLine count old new (Ok (Some line)) = (old < count) × (new ≡ old + 1)
CountsLine count old new (Ok None) = (old ≡ count) × (new ≡ old)
CountsLine count old new (Err e) = new ≡ old

-- ---- how far it has come: what the text gives, the depth, how many lines were given, and whether one could not be made
pub record OutputProgress : Type 0 where
  pub text : Result Declarations (ℕ × ℕ)
  pub depth : ℕ
  pub given : ℕ
  pub has_failed : Bool

abbrev pub progress_code : Coded OutputProgress
progress_code =
    code_by (Result Declarations (ℕ × ℕ) × (ℕ × (ℕ × Bool)))
    (coded× (coded_result declarations_code (coded× coded_ℕ coded_ℕ)) (coded× coded_ℕ (coded× coded_ℕ coded_bool)))
    (λ p. (p.text, (p.depth, (p.given, p.has_failed))))
    (λ (t, (n, (k, b))). record { text = t; depth = n; given = k; has_failed = b })
    (λ _. refl)

pub record IsAfterLine (old new : OutputProgress) : Type 0 where
  pub text : new.text ≡ old.text
  pub depth : new.depth ≡ old.depth
  pub given : new.given ≡ old.given + 1
  pub has_failed : new.has_failed ≡ false

pub record IsAfterFault (old new : OutputProgress) : Type 0 where
  pub text : new.text ≡ old.text
  pub depth : new.depth ≡ old.depth
  pub given : new.given ≡ old.given
  pub has_failed : new.has_failed ≡ true

-- All lines were given, or one could not be made.
abbrev pub HasNoMore : OutputProgress → Type 0
HasNoMore p = (p.given ≡ line_count p.text) ⊎ (p.has_failed ≡ true)
