-- A text that is asked at run time.
use Rattle.std.specs.Prelude.{◌≡◌, ℕ, ◌+◌, ◌-◌, ◌<◌, ◌≤◌, ◌⊎◌, List, length, Ok, Err, refl}
use Rattle.std.specs.Coded.{Coded, code_by, coded_ℕ, coded×}
use Rattle.sessions.specs.TypeTerms.declared.Fault.{Fault}
use Rattle.sessions.specs.TypeTerms.declared.Fault.TheVariants as wants
use Rattle.text_parser.specs.TextNames.FaultNumbers.{fault_number}
use Rattle.sessions.specs.TextLanguage.Promised.Declarations.{Declarations, Question}
use Rattle.sessions.specs.TextLanguage.Text.{LineGives, TextGives}
use Rattle.sessions.specs.TextLanguage.Promised.Text.{text_limit}
use Rattle.text_parser.specs.Behind.{IsOneLine}
use Rattle.text_parser.specs.Queries.{FitsTables}
use Rattle.sessions.specs.TextTables.Stored.{declarations_code}
use Rattle.sessions.specs.TextTables.Tables.{with_question}
use Rattle.sessions.specs.TextTables.Views.{question_of}
use Rattle.sessions.specs.TextTables.declared.declared.QuestionEntry.{QuestionEntry}
use Rattle.sessions.specs.declared.limits.Limits.{Limits}
use Rattle.sessions.specs.declared.left_session.LeftSession.{LeftSession}
use Rattle.coherence.specs.KeptLines.{HasLine}
use Rattle.coherence.specs.KeptSessions.{AreLeftSessions}
use Rattle.coherence.specs.LineByLine.{IsLineAt, line_count}
use Rattle.coherence.specs.declared.ask_fault.AskFault.{AskFault}
use Rattle.coherence.specs.declared.ask_fault.AskFault.TheVariants as faults

-- what the text declares, how many bytes it has, and the depth at which it is asked
pub record AskedText : Type 0 where
  pub declarations : Declarations
  pub text_length : ℕ
  pub depth : ℕ

abbrev pub asked_text_code : Coded AskedText
asked_text_code =
    code_by (Declarations × (ℕ × ℕ))
    (coded× declarations_code (coded× coded_ℕ coded_ℕ))
    (λ a. (a.declarations, (a.text_length, a.depth)))
    (λ (d, (n, k)). record { declarations = d; text_length = n; depth = k })
    (λ _. refl)

-- A text of this length gives the declarations; and what is kept, sessions on it with these limits left.
pub record Serves (d : Declarations) (text_length : ℕ) (limits : Limits) (kept : List LeftSession) : Type 0 where
  pub text : (bytes : List ℕ) × TextGives bytes (Ok d) × (length bytes ≡ text_length)
  pub left : AreLeftSessions d limits kept

-- ---- what a line asks behind a text of this length that gives the declarations d
-- This question, behind all others; and the text has room for the line.
pub record IsQueryBehind (d : Declarations) (text_length : ℕ) (line : List ℕ) (q : QuestionEntry) : Type 0 where
  pub alone : IsOneLine line
  pub room : text_length + 1 + length line ≤ text_limit
  pub fits : FitsTables d q
  pub gives : LineGives d line (Ok (with_question d (question_of q)))

-- The fault is the line's, or that it gives no question, that it isn't one line, or that the text has no room for it; or the search
-- wants memory or room. A line that gives no question has no fault, but for a declaration with types, of which that is not said.
abbrev pub IsAskFault : Declarations → ℕ → List ℕ → AskFault → Type 0
IsAskFault d n line (faults.Line k) = LineGives d line (Err (fault_number k))
IsAskFault d n line faults.NotAQuery =
    ((e : Declarations) × LineGives d line (Ok e) × (e.questions ≡ d.questions)) ⊎ ((e : Declarations) → LineGives d line (Ok e) → e.questions ≡ d.questions)
IsAskFault d n line faults.SeveralLines = IsOneLine line → ⊥
IsAskFault d n line faults.TooLong = text_limit < n + 1 + length line
IsAskFault d n line faults.Memory = Unit {0}
IsAskFault d n line faults.Full = Unit {0}

-- It wants memory or room.
abbrev pub IsShortage : AskFault → Type 0
IsShortage faults.Memory = Unit {0}
IsShortage faults.Full = Unit {0}
IsShortage _ = ⊥

abbrev pub ask_fault_of : Fault → AskFault
ask_fault_of wants.Full = faults.Full
ask_fault_of wants.Memory = faults.Memory

-- ---- the answer
-- The line of this question, behind all others of d.
abbrev pub IsAnswerBehind : ℕ → Declarations → Question → List ℕ → Type 0
IsAnswerBehind limit d q text = HasLine limit (with_question d q) (length d.questions + 1) q text

-- These bytes are a text without a fault, and this is the last line of the output for it.
abbrev pub IsLastLine : ℕ → List ℕ → List ℕ → Type 0
IsLastLine limit bytes text = (d : Declarations) × TextGives bytes (Ok d) × IsLineAt limit (Ok d) (line_count (Ok d) - 1) text
