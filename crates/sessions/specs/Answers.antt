-- What the solver answers to queries without variables, by what a crate sees of a text.
use Rattle.std.specs.Prelude.{◌≡◌, ◌≤◌, ◌⊎◌, ℕ, true, false, List, [], map, Option, Some, None}
use Rattle.type_terms.specs.Promised.Answers.{SingleWay, is_bounded}
use Rattle.type_terms.specs.Promised.Proofs.{HasProof}
use Rattle.type_terms.specs.Promised.Erased.{erased_reference}
use Rattle.type_terms.specs.Promised.Worlds.{World, Reference}
use Rattle.type_terms.specs.Promised.Handles.{Entry}
use Rattle.infer_table.specs.Canonical.{GoalTrees, canonical_form}
use Rattle.infer_table.specs.Responses.{AnswerTrees}
use Rattle.infer_table.specs.declared.certainty.TypingMode.{TypingMode}
use Rattle.infer_table.specs.declared.certainty.TypingMode.TheVariants.{Coherence, PostAnalysis}
use Rattle.search_graph.specs.Plain.{IsPlain}
use Rattle.goal_evaluator.specs.Law.{IsYes}
use Rattle.goal_evaluator.specs.TableAnswers.{has_values}
use Rattle.goal_evaluator.specs.Tables.{frame_tables}
use Rattle.goal_frames.specs.HandlerPrograms.{programs_of}
use Rattle.goal_frames.specs.Programs.{Programs}
use Rattle.goal_frames.specs.Searches.{Handles, GoalInMode, meaning}
use Rattle.declarations.specs.Promised.Elaboration.{elaborate}
use Rattle.declarations.specs.Items.{Items, written}
use Rattle.candidate_assembly.specs.Fitting.{solving_of}
use Rattle.candidate_assembly.specs.Solving.{Solving}
use Rattle.solver_completeness.specs.SolverAnswers.{TellsPossible}
use Rattle.candidate_assembly.specs.SolverMeaning.{goals_by_view}
use Rattle.sessions.specs.Fitting.{sorts_in}
use Rattle.sessions.specs.Goals.{goal_of, IsFormedQuestion}
use Rattle.sessions.specs.Questions.{IsFormedAsWritten}

-- the solver's goals as programs
abbrev pub solver_goals : Programs frame_tables
solver_goals = programs_of goals_by_view

-- The trait reference has a proof, and the answer is a definite yes. Or it has none, and the answer is a refusal.
abbrev pub IsRightOf : World → List Reference → Reference → Option AnswerTrees → Type 0
IsRightOf V E r a = (HasProof V E r × IsYes frame_tables a) ⊎ ((HasProof V E r → ⊥) × (a ≡ None))

-- The answer tells whether this holds: a refusal if it does not, and otherwise an answer without values.
abbrev pub TellsProof : Type 0 → Option AnswerTrees → Type 0
TellsProof P None = P → ⊥
TellsProof P (Some a) = P × (has_values a ≡ false)

module _ {C I R F : Type 0} (handles : Handles C I R F Solving (GoalInMode frame_tables solver_goals) (Option AnswerTrees)) where
  -- Plain recursion, in chains of fewer than `limit` goals, comes to no other answer.
  abbrev pub IsOnlyAnswer : Solving → TypingMode → ℕ → GoalTrees → Option AnswerTrees → Type 0
  IsOnlyAnswer w mode limit g a = (b : Option AnswerTrees) → IsPlain (meaning frame_tables solver_goals handles) w limit (mode, canonical_form g) b → b ≡ a

  -- Outside coherence, a query with at most one rule instance at each step, in chains of fewer than n, is answered rightly by the
  -- declarations as they are written, up to lifetimes.
  abbrev pub AreAnsweredRight : List Entry → Items → Type 0
  AreAnsweredRight es d =
      let V = written es d in
      (E : List Reference) (r : Reference) → IsFormedQuestion V (sorts_in d) E r → (n limit : ℕ) → n ≤ limit → SingleWay n V (map erased_reference E) (erased_reference r)
      → (a : Option AnswerTrees) → IsOnlyAnswer (solving_of es d) PostAnalysis limit (goal_of E r) a → IsRightOf V (map erased_reference E) (erased_reference r) a

  -- A query is evaluated under its where-clauses E with all their supertraits. It is answered rightly by E as they are written, if under
  -- these there is at most one rule instance at each step.
  abbrev pub AreAnsweredAsWritten : List Entry → Items → Type 0
  AreAnsweredAsWritten es d =
      let V = written es d in
      (E : List Reference) (r : Reference) → IsFormedAsWritten V (sorts_in d) E r → (n limit : ℕ) → n ≤ limit → SingleWay n V (map erased_reference E) (erased_reference r)
      → (a : Option AnswerTrees) → IsOnlyAnswer (solving_of es d) PostAnalysis limit (goal_of (elaborate V E) r) a → IsRightOf V (map erased_reference E) (erased_reference r) a

  -- In coherence, a bounded trait reference without where-clauses is refused exactly if it is not possible in the crate.
  abbrev pub AreToldPossible : List Entry → Items → Type 0
  AreToldPossible es d =
      let V = written es d in
      (r : Reference) → IsFormedQuestion V (sorts_in d) [] r → (n limit : ℕ) → n ≤ limit → is_bounded n V d.local (erased_reference r) ≡ true
      → (a : Option AnswerTrees) → IsOnlyAnswer (solving_of es d) Coherence limit (goal_of [] r) a → TellsPossible V d.local n (erased_reference r) a
