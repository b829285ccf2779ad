-- What is answered to a question about several trait references is right.
use Rattle.std.specs.Prelude.{◌≡◌, ℕ, [], List}
use Rattle.type_terms.specs.Promised.Handles.{Entry}
use Rattle.text_language.specs.Promised.Declarations.{Declarations, Question}
use Rattle.text_lowering.specs.Promised.Questions.{IsQuestion}
use Rattle.candidate_assembly.specs.Solving.{Solving}
use Rattle.sessions.specs.Promised.Given.{answer_in}
use Rattle.sessions.specs.Promised.Promises.{IsProved}
use Rattle.sessions.specs.Promised.Subjects.{IsOfText}
use Rattle.sessions.specs.ProvingTogether.{AreAnsweredBySolver}
use Rattle.sessions.specs.Sessions.{IsSolvingOf}
use Rattle.sessions.specs.declared.answers.ProveAnswer.{ProveAnswer}

-- The answer to a question about several trait references is right.
abbrev pub SeveralAreAnsweredRightly : Type 0
SeveralAreAnsweredRightly =
    (d : Declarations) → IsOfText d → (n : ℕ) (q : Question) → IsQuestion d n q → (q.further ≡ [] → ⊥) → (s : Solving) → IsSolvingOf d q.asker s
    → (limit depth : ℕ) (es : List Entry) (a : ProveAnswer) → AreAnsweredBySolver s depth q es a → IsProved limit d q (answer_in es a)
