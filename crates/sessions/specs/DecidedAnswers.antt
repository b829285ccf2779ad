-- What the solver answers to queries for one trait reference alone, apart from yes.
use Rattle.std.specs.Global.{Vec}
use Rattle.std.specs.Prelude.{◌≡◌, ℕ, List, []}
use Rattle.type_terms.specs.Promised.Handles.{Entry}
use Rattle.type_terms.specs.declared.kinds.GenericArgKind.{GenericArgKind}
use Rattle.text_language.specs.Promised.Declarations.{Declarations, Question}
use Rattle.text_lowering.specs.Promised.Questions.{IsQuestion}
use Rattle.candidate_assembly.specs.Solving.{Solving}
use Rattle.type_terms.specs.Promised.Questions as answers
use Rattle.sessions.specs.Promised.Given.{answer_in}
use Rattle.sessions.specs.Promised.Promises.{IsProved}
use Rattle.sessions.specs.Proving.{IsAnsweredBySolver}
use Rattle.sessions.specs.Sessions.{IsSolvingOf}
use Rattle.sessions.specs.Promised.Subjects.{IsOfText}
use Rattle.sessions.specs.declared.answers.ProveAnswer.TheVariants.{Unproved, Maybe}

-- An answer that is no yes is right: to a query without variables, within the depth, the solver answers `Unproved` only if it has no proof, and
-- `Maybe` only if it has one and rules compete. To one without where-clauses and parameters it answers `Unproved` only if there is no solution,
-- and the values of `Maybe` cover all solutions.
abbrev pub OtherAnswersAreRight : Type 0
OtherAnswersAreRight =
    (d : Declarations) → IsOfText d → (n : ℕ) (q : Question) → IsQuestion d n q → q.further ≡ [] → (s : Solving) → IsSolvingOf d q.asker s → (depth : ℕ) (es : List Entry)
    → (IsAnsweredBySolver s depth q es Unproved → IsProved depth d q answers.unproved)
    × ((values : Vec GenericArgKind) → IsAnsweredBySolver s depth q es (Maybe values) → IsProved depth d q (answer_in es (Maybe values)))
