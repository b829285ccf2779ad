-- Unambiguous trait references, as the search of a session answers them outside coherence.
use Rattle.std.specs.Prelude.{ℕ, ◌+◌, List, map, Option, Some}
use Rattle.type_terms.specs.Promised.Answers.{SingleWay, IsUnambiguous}
use Rattle.type_terms.specs.Promised.Erased.{erased_reference}
use Rattle.type_terms.specs.Promised.Proofs.{HasProof}
use Rattle.type_terms.specs.Promised.Worlds.{World, Reference}
use Rattle.infer_table.specs.Canonical.{canonical_form}
use Rattle.infer_table.specs.Responses.{AnswerTrees}
use Rattle.infer_table.specs.declared.certainty.TypingMode.TheVariants.{PostAnalysis}
use Rattle.search_graph.specs.Plain.{IsNotPlain}
use Rattle.goal_evaluator.specs.Law.{IsYes}
use Rattle.goal_evaluator.specs.Tables.{frame_tables}
use Rattle.solver_graph.specs.Contexts.{Asked}
use Rattle.solver_graph.specs.Evaluations.{IsFoundBySearch}
use Rattle.declarations.specs.Promised.Elaboration.{elaborate}
use Rattle.declarations.specs.Items.{written}
use Rattle.text_language.specs.Promised.Declarations.{Declarations, Question}
use Rattle.text_lowering.specs.Promised.SeenWorlds.{unbound_reference}
use Rattle.text_lowering.specs.Plain.{unbound_references}
use Rattle.text_lowering.specs.Promised.Questions.{IsQuestion}
use Rattle.candidate_assembly.specs.Solving.{Solving}
use Rattle.sessions.specs.Answers.{IsRightOf, TellsProof}
use Rattle.sessions.specs.Fitting.{sorts_in}
use Rattle.sessions.specs.Goals.{goal_of}
use Rattle.sessions.specs.Promised.Promises.{EndsWithin, HasFewRules, view_in}
use Rattle.sessions.specs.Questions.{IsFormedAsWritten}
use Rattle.sessions.specs.Refusals.{session_meaning}
use Rattle.sessions.specs.Sessions.{IsSolvingOf}
use Rattle.sessions.specs.Promised.Subjects.{IsOfText}

-- The trait reference, evaluated outside coherence under the where-clauses with all their supertraits.
abbrev pub asked_under : World → List Reference → Reference → Asked
asked_under V E r = (PostAnalysis, canonical_form (goal_of (elaborate V E) r))

-- It has an answer within this depth. What the search finds is a definite yes if it has a proof by V and the where-clauses as they are
-- written, and a refusal if it has none.
pub record IsAnsweredRightly (s : Solving) (depth : ℕ) (V : World) (E : List Reference) (r : Reference) : Type 0 where
  pub plainly : IsNotPlain session_meaning s (depth + 1) (asked_under s.view E r) → ⊥
  pub found : (a : Option AnswerTrees) → IsFoundBySearch session_meaning s depth (asked_under s.view E r) a → IsRightOf V (map erased_reference E) (erased_reference r) a

-- This holds if at each step there is at most one rule instance, by what the crate sees.
abbrev pub DecidedAreAnswered : Type 0
DecidedAreAnswered =
    (d : Declarations) → IsOfText d → (c : ℕ) (s : Solving) (of : IsSolvingOf d c s) (E : List Reference) (r : Reference)
    → IsFormedAsWritten (written of.entries of.declarations) (sorts_in of.declarations) E r
    → (depth : ℕ) → SingleWay depth (view_in d c) (map erased_reference E) (erased_reference r) → IsAnsweredRightly s depth (view_in d c) E r

-- It has an answer within this depth. What the search finds tells whether it has a proof by V and the where-clauses as they are written.
-- If there are few rules at each step, and a proof, it is a definite yes.
pub record IsAnsweredExactly (s : Solving) (depth : ℕ) (V : World) (E : List Reference) (r : Reference) : Type 0 where
  pub plainly : IsNotPlain session_meaning s (depth + 1) (asked_under s.view E r) → ⊥
  pub found : (a : Option AnswerTrees) → IsFoundBySearch session_meaning s depth (asked_under s.view E r) a → TellsProof (HasProof V (map erased_reference E) (erased_reference r)) a
  pub sure : HasFewRules depth V (map erased_reference E) (erased_reference r) → (a : AnswerTrees) → IsFoundBySearch session_meaning s depth (asked_under s.view E r) (Some a) → IsYes frame_tables (Some a)

-- This holds if chains of premises are short, by what the crate sees.
abbrev pub ShortAreAnswered : Type 0
ShortAreAnswered =
    (d : Declarations) → IsOfText d → (c : ℕ) (s : Solving) (of : IsSolvingOf d c s) (E : List Reference) (r : Reference)
    → IsFormedAsWritten (written of.entries of.declarations) (sorts_in of.declarations) E r
    → (depth : ℕ) → EndsWithin depth (view_in d c) (map erased_reference E) (erased_reference r) → IsAnsweredExactly s depth (view_in d c) E r

-- ---- queries of a text
-- A query, evaluated outside coherence, is answered within this depth: by a definite yes if it has a proof by V, and by a refusal if it has
-- none.
pub record IsQuestionAnswered (s : Solving) (depth : ℕ) (V : World) (q : Question) : Type 0 where
  pub plainly : IsNotPlain session_meaning s (depth + 1) (asked_under s.view (unbound_references q.clauses) (unbound_reference q.asked)) → ⊥
  pub found : (a : Option AnswerTrees) → IsFoundBySearch session_meaning s depth (asked_under s.view (unbound_references q.clauses) (unbound_reference q.asked)) a
      → IsRightOf V (map erased_reference q.clauses) (erased_reference q.asked) a

-- This holds for each query that is unambiguous by what its crate sees.
abbrev pub DecidedQuestionsAreAnswered : Type 0
DecidedQuestionsAreAnswered =
    (d : Declarations) → IsOfText d → (n : ℕ) (q : Question) → IsQuestion d n q → (s : Solving) → IsSolvingOf d q.asker s → (depth : ℕ)
    → IsUnambiguous depth (view_in d q.asker) (map erased_reference q.clauses) (erased_reference q.asked) → IsQuestionAnswered s depth (view_in d q.asker) q
