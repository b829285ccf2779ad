-- What the answer yes proves.
use Rattle.std.specs.Global.{Vec}
use Rattle.std.specs.Prelude.{◌≡◌, ℕ, List, []}
use Rattle.type_terms.specs.Promised.Handles.{Entry}
use Rattle.type_terms.specs.declared.kinds.GenericArgKind.{GenericArgKind}
use Rattle.text_language.specs.Promised.Declarations.{Declarations, Question}
use Rattle.candidate_assembly.specs.Solving.{Solving}
use Rattle.text_lowering.specs.Promised.Questions.{IsQuestion}
use Rattle.sessions.specs.Promised.Given.{answer_in}
use Rattle.sessions.specs.Promised.Promises.{IsProved}
use Rattle.sessions.specs.Proving.{IsAnsweredBySolver}
use Rattle.sessions.specs.Sessions.{IsSolvingOf}
use Rattle.sessions.specs.Promised.Subjects.{IsOfText}
use Rattle.sessions.specs.declared.answers.ProveAnswer.TheVariants.{Yes}

-- The answer yes to a query for one trait reference alone is right: with its values this has a proof.
abbrev pub YesIsRight : Type 0
YesIsRight =
    (d : Declarations) → IsOfText d → (n : ℕ) (q : Question) → IsQuestion d n q → q.further ≡ [] → (s : Solving) → IsSolvingOf d q.asker s → (limit depth : ℕ) (es : List Entry) (values : Vec GenericArgKind)
    → IsAnsweredBySolver s depth q es (Yes values) → IsProved limit d q (answer_in es (Yes values))
