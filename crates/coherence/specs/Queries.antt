-- Queries of a text as values, and answers with the values of variables by their names.
use Rattle.std.specs.Prelude.{◌≡◌, ℕ, ◌<◌, length, map}
use Rattle.text_printer.specs.Answers.{value_of}
use Rattle.sessions.specs.TextLanguage.Promised.Declarations.{Declarations, Question}
use Rattle.sessions.specs.TextLanguage.Output.{Answer, yes, maybe, unproved}
use Rattle.sessions.specs.Promised.Promises.{IsProved}
use Rattle.sessions.specs.Promised.Subjects.{AsksProof, AsksRefutation}
use Rattle.sessions.specs.QuestionAnswers as answers
use Rattle.sessions.specs.TextQuestions.{IsQuestion}
use Rattle.coherence.specs.Lines.{prove_line}
use Rattle.coherence.specs.declared.named_answer.NamedAnswer.{NamedAnswer}
use Rattle.coherence.specs.declared.named_answer.NamedAnswer.TheVariants as named
use Rattle.coherence.specs.declared.query.ProveQuery.{ProveQuery}
use Rattle.coherence.specs.declared.query.RefuteQuery.{RefuteQuery}
use Rattle.coherence.specs.declared.query.Query.{Query}
use Rattle.coherence.specs.declared.query.Query.TheVariants.{Prove, Refute}

-- It is a `prove` query of the text, and its crate is declared.
pub record IsProveQuery (d : Declarations) (p : ProveQuery) : Type 0 where
  pub declared : p.crate_id.index < length d.crates
  pub asks : (q : Question) × AsksProof d p.crate_id.index p.number q

-- It is a `refute` query of the text, and its crate is declared.
pub record IsRefuteQuery (d : Declarations) (r : RefuteQuery) : Type 0 where
  pub declared : r.crate_id.index < length d.crates
  pub asks : (q : Question) × AsksRefutation d r.crate_id.index r.number q

-- It is the query of the text with number n, and says what that one asks.
abbrev pub IsQueryAt : Declarations → ℕ → Query → Type 0
IsQueryAt d n (Prove p) = (p.number ≡ n) × IsProveQuery d p
IsQueryAt d n (Refute r) = (r.number ≡ n) × IsRefuteQuery d r

-- The text has no query with number n.
abbrev pub HasNoQuery : Declarations → ℕ → Type 0
HasNoQuery d n = (q : Question) → IsQuestion d n q → ⊥

-- The line that an answer to query number n prints.
abbrev pub named_line : ℕ → NamedAnswer → Answer
named_line n (named.Yes values) = yes n (map value_of values.items)
named_line n (named.Maybe values) = maybe n (map value_of values.items)
named_line n named.Unproved = unproved n

-- The answer is right for query number n, and its values have the names that the output has.
pub record IsNamedAnswer (limit : ℕ) (d : Declarations) (n : ℕ) (q : Question) (a : NamedAnswer) : Type 0 where
  pub answer : answers.ProveAnswer
  pub right : IsProved limit d q answer
  pub named : named_line n a ≡ prove_line d n q answer
