-- The search results of `evaluate_root_goal` for goals with well-formed facts, if the handler has the solver's meaning.
use Rattle.std.specs.Prelude.{◌≡◌, ◌≤◌, ◌+◌, ℕ, Bool, true, List, [], Option}
use Rattle.type_terms.specs.Promised.Handles.{Entry}
use Rattle.type_terms.specs.Promised.Answers.{SingleWay, is_bounded}
use Rattle.goal_frames.specs.Notes.{Notes}
use Rattle.infer_table.specs.Canonical.{CanonicalForm}
use Rattle.infer_table.specs.declared.certainty.TypingMode.{TypingMode}
use Rattle.infer_table.specs.declared.certainty.TypingMode.TheVariants.{Coherence, PostAnalysis}
use Rattle.infer_table.specs.Responses.{AnswerTrees}
use Rattle.search_graph.specs.Meaning as Search
use Rattle.goal_evaluator.specs.Content.{Values, NestedQuestion, fact_of}
use Rattle.goal_evaluator.specs.Tables.{frame_tables}
use Rattle.goal_frames.specs.Meanings.{HandlerMeaning}
use Rattle.goal_frames.specs.declared.store.InputId.{InputId}
use Rattle.goal_frames.specs.declared.store.ResponseId.{ResponseId}
use Rattle.goal_frames.specs.declared.frame.GoalFrame.{GoalFrame}
use Rattle.solver_graph.specs.declared.context.SolverCx.{SolverCx}
use Rattle.solver_graph.specs.Contexts.{entries_of}
use Rattle.solver_graph.specs.Evaluations.{IsFoundBySearch}
use Rattle.solver_graph.specs.Searching.{solver_meaning}
use Rattle.solver_completeness.specs.Ways.{HasShortChains, IsExactFor, IsRightFor}
use Rattle.candidate_model.specs.Facts.{clauses_of, reference_in}
use Rattle.candidate_model.specs.Meaning.{ViewMeaning}
use Rattle.solver_completeness.specs.SolverGoals.{ways_by, FactIsProved}
use Rattle.solver_completeness.specs.SolverAnswers.{solver_goals, TellsPossible}
use Rattle.solver_completeness.specs.FormedFacts.{Sorts}
use Rattle.solver_completeness.specs.FormedAnswers.{IsFormedGoal, AreDeclared}

module _ {W : Type 0} (applicable : AnswerTrees → Bool) (same : AnswerTrees → AnswerTrees → Bool) (meaning_of : W → ViewMeaning) (fits_in : W → CanonicalForm → Bool)
    {Handler : Type 0} (is_ready : Handler → List Entry → Type 0) (declares : Handler → List Entry → W) (are_notes : Handler → List Entry → Notes → Type 0) where
  -- the solver's goals for such a handler, and their meaning for the search of a context with it
  abbrev pub solver_in : HandlerMeaning Handler
  solver_in = record { goals = solver_goals applicable same meaning_of fits_in; IsReady = is_ready; world = declares; AreNotes = are_notes }

  abbrev pub root_meaning : Search.Meaning (SolverCx Handler) InputId (Option ResponseId) GoalFrame
  root_meaning = solver_meaning solver_in

  abbrev pub declared_in : SolverCx Handler → W
  declared_in c = declares c.handler (entries_of c)

  -- the search within this depth gives the canonical goal this result
  abbrev pub SearchGives : SolverCx Handler → ℕ → TypingMode → NestedQuestion → Option AnswerTrees → Type 0
  SearchGives c depth mode q a = IsFoundBySearch root_meaning (declared_in c) depth (mode, q.form) a

  -- a bounded goal is refuted exactly if it is not possible
  abbrev pub RootsAreExact : Type 0
  RootsAreExact =
      (c : SolverCx Handler) (depth n : ℕ) (mode : TypingMode) (sorts : Sorts) (admits : CanonicalForm → Bool) → let m = meaning_of (declared_in c) in
      AreDeclared m mode (fits_in (declared_in c)) admits sorts → (q : NestedQuestion) (v : Values) (a : Option AnswerTrees) → IsFormedGoal m.view sorts admits q v
      → n ≤ depth + 1 → HasShortChains (ways_by m mode) n (fact_of q v) → SearchGives c depth mode q a → IsExactFor (ways_by m mode) n (fact_of q v) a

  -- outside coherence an unambiguous trait reference gets a definite yes if it has a proof, and is refuted otherwise
  abbrev pub RootsAreRight : Type 0
  RootsAreRight =
      (c : SolverCx Handler) (depth n : ℕ) (sorts : Sorts) (admits : CanonicalForm → Bool) → let m = meaning_of (declared_in c) in
      AreDeclared m PostAnalysis (fits_in (declared_in c)) admits sorts → (q : NestedQuestion) (v : Values) (a : Option AnswerTrees) → IsFormedGoal m.view sorts admits q v
      → n ≤ depth + 1 → SingleWay n m.view (clauses_of (fact_of q v).goal.environment) (reference_in (fact_of q v)) → SearchGives c depth PostAnalysis q a
      → IsRightFor frame_tables (FactIsProved m.view) (fact_of q v) a

  -- in coherence a bounded trait reference without where-clauses is refuted exactly if it is not possible for the crate
  abbrev pub RootsTellPossible : Type 0
  RootsTellPossible =
      (c : SolverCx Handler) (depth n : ℕ) (sorts : Sorts) (admits : CanonicalForm → Bool) → let m = meaning_of (declared_in c) in
      AreDeclared m Coherence (fits_in (declared_in c)) admits sorts → (q : NestedQuestion) (v : Values) (a : Option AnswerTrees) → IsFormedGoal m.view sorts admits q v
      → n ≤ depth + 1 → clauses_of (fact_of q v).goal.environment ≡ [] → is_bounded n m.view m.crate (reference_in (fact_of q v)) ≡ true → SearchGives c depth Coherence q a
      → TellsPossible m.view m.crate n (reference_in (fact_of q v)) a
