-- A line that is asked behind the lines of a text.
use Rattle.std.specs.Prelude.{◌≡◌, ℕ, ◌<◌, ◌≤◌, Bool, List, ◌∷◌, length, map, fold, Option, Some, None, Ok, Err}
use Rattle.std.specs.Global.{Vec}
use Rattle.text_language.specs.Adding.{added}
use Rattle.text_language.specs.Agreement.{plain}
use Rattle.text_language.specs.Faults.{fault_of}
use Rattle.text_language.specs.Promised.Declarations.{Declarations}
use Rattle.text_language.specs.Promised.Desugared.{desugared}
use Rattle.text_language.specs.Promised.Syntax.{Line, WrittenLine}
use Rattle.text_language.specs.Syntax.{spelling}
use Rattle.text_language.specs.Text.{LineGives, first_of, fault_written}
use Rattle.text_lines.specs.Lines.{ReadsLine}
use Rattle.text_lines.specs.Pieces.{lists_in, pieces_tokens}
use Rattle.text_lines.specs.TypedLines.{ReadsTyped}
use Rattle.text_lines.specs.declared.line_lists.Piece.{Piece}
use Rattle.text_lines.specs.declared.statement.LineRead.{LineRead}
use Rattle.text_lines.specs.declared.typed_line.TypedLine.{TypedLine}
use Rattle.text_names.specs.FaultNumbers.{fault_number}
use Rattle.text_tables.specs.Made.{ReferencesMade}
use Rattle.text_tables.specs.Tables.{with_question}
use Rattle.text_tables.specs.Views.{asker_of, question_of}
use Rattle.text_tables.specs.declared.declared.QuestionEntry.{QuestionEntry}
use Rattle.text_parser.specs.Declaring.{FindsFault, AddsLine}
use Rattle.text_parser.specs.Entries.{OfRead}
use Rattle.text_parser.specs.WrittenLines.{with_own}
use Rattle.text_parser.specs.declared.query_line.QueryLine.{QueryLine}
use Rattle.text_parser.specs.declared.query_line.QueryLine.TheVariants as lines

-- The entry is made as entries are, and asks in a crate that is there.
pub record FitsTables (d : Declarations) (q : QuestionEntry) : Type 0 where
  pub asked : ReferencesMade (q.asked ∷ q.further.items)
  pub clauses : ReferencesMade q.clauses.items
  pub asker : asker_of q.asked_how < length d.crates

-- As the next line behind the declarations it gives this question behind all others, or has this fault, or gives no question. Of a
-- declaration with types only this is said: if it has no fault, it gives no question.
abbrev pub IsQueryLine : Declarations → List ℕ → QueryLine → Type 0
IsQueryLine d line (lines.Query q) = FitsTables d q × LineGives d line (Ok (with_question d (question_of q)))
IsQueryLine d line (lines.Faulty k) = LineGives d line (Err (fault_number k))
IsQueryLine d line lines.Other = (e : Declarations) × LineGives d line (Ok e) × (e.questions ≡ d.questions)
IsQueryLine d line lines.Declared = (e : Declarations) → LineGives d line (Ok e) → e.questions ≡ d.questions

-- The same of a line that was read.
abbrev pub IsQueryRead : Declarations → LineRead → QueryLine → Type 0
IsQueryRead d read (lines.Query q) = FindsFault d read None × FitsTables d q × AddsLine d read (with_question d (question_of q))
IsQueryRead d read (lines.Faulty k) = FindsFault d read (Some k)
IsQueryRead d read lines.Other = FindsFault d read None × OfRead read (λ l. (added d l).questions ≡ d.questions)
IsQueryRead d read lines.Declared = ⊥

-- The same of a line with this fault, or with these declarations behind it.
abbrev pub ComesToQuery : Declarations → Option ℕ → Declarations → QueryLine → Type 0
ComesToQuery d fault e (lines.Query q) = FitsTables d q × (fault ≡ None) × (with_question d (question_of q) ≡ e)
ComesToQuery d fault e (lines.Faulty k) = fault ≡ Some (fault_number k)
ComesToQuery d fault e lines.Other = (fault ≡ None) × (e.questions ≡ d.questions)
ComesToQuery d fault e lines.Declared = ⊥

-- Of a line as it is written.
abbrev pub IsQueryWritten : Declarations → List ℕ → WrittenLine → QueryLine → Type 0
IsQueryWritten d line w q = ComesToQuery d (fault_written d line w) (fold added d (desugared w)) q

abbrev pub IsQueryPlain : Declarations → List ℕ → LineRead → QueryLine → Type 0
IsQueryPlain d line read q = (l : Line) → ReadsLine l read → IsQueryWritten d line (plain l) q

abbrev pub IsQueryTyped : Declarations → List ℕ → TypedLine → QueryLine → Type 0
IsQueryTyped d line t q = (w : WrittenLine) → ReadsTyped w t → IsQueryWritten d line w q

-- Of the line that a list spells.
abbrev pub IsQueryList : Declarations → List Piece → QueryLine → Type 0
IsQueryList d list q = (l : Line) → pieces_tokens list ≡ spelling l → ComesToQuery d (fault_of d l) (added d l) q

-- Of the lists of a query, of which there is one.
abbrev pub IsQueryLists : Declarations → List (Vec Piece) → QueryLine → Type 0
IsQueryLists d lists q = (ls : List Line) → lists_in lists ≡ map spelling ls → length ls ≤ 1 → ComesToQuery d (first_of d ls) (fold added d ls) q

-- With the fault that the line has by itself.
abbrev pub IsWithOwn : Declarations → QueryLine → (is_ill : Bool) → QueryLine → Type 0
IsWithOwn d q is_ill r = (o : Option ℕ) (e : Declarations) → ComesToQuery d o e q → ComesToQuery d (with_own o is_ill) e r
