-- The where-clauses of queries, as goals are evaluated under them.
use Rattle.std.specs.Prelude.{ℕ, List, Ok}
use Rattle.type_terms.specs.Promised.Handles.{Entry}
use Rattle.declarations.specs.Applied.{AreApplied}
use Rattle.declarations.specs.Items.{Items}
use Rattle.text_language.specs.Promised.Declarations as text
use Rattle.text_language.specs.Text.{TextGives}
use Rattle.text_lowering.specs.Promised.Questions.{IsQuestion}
use Rattle.text_lowering.specs.Questions.{IsLowered}
use Rattle.text_lowering.specs.Ready.{AreSeen}
use Rattle.text_lowering.specs.declared.question.LoweredQuestion.{LoweredQuestion}
use Rattle.candidate_assembly.specs.Fitting.{solving_of}
use Rattle.sessions.specs.Proving.{ClausesApply}
use Rattle.sessions.specs.Sessions.{IsSolvingOf}
use Rattle.sessions.specs.Promised.Subjects.{IsOfText}

-- The where-clauses of a query of a text without a fault have an argument for each parameter of their traits, by what the query's crate
-- sees, over any terms that they are lowered to.
abbrev pub TextsClausesApply : Type 0
TextsClausesApply =
    (bytes : List ℕ) (d : text.Declarations) → TextGives bytes (Ok d) → (n : ℕ) (q : text.Question) → IsQuestion d n q
    → (es : List Entry) (decls : Items) → AreSeen es decls d q.asker → (held : List Entry) (l : LoweredQuestion) → IsLowered held q l → AreApplied held decls l.clauses.items

-- They also have it by all declarations that mean for the solver what the query's crate sees.
abbrev pub SolversClausesApply : Type 0
SolversClausesApply =
    (d : text.Declarations) → IsOfText d → (n : ℕ) (q : text.Question) → IsQuestion d n q
    → (es : List Entry) (decls : Items) → IsSolvingOf d q.asker (solving_of es decls) → ClausesApply decls q
