-- What a search in coherence leaves open is possible, and what it refuses is not.
use Rattle.std.specs.Prelude.{◌≡◌, ℕ, true, false, Option, None}
use Rattle.type_terms.specs.Promised.Answers.{is_bounded, is_possible}
use Rattle.type_terms.specs.Promised.Erased.{erased_reference}
use Rattle.type_terms.specs.Promised.Worlds.{World, Reference}
use Rattle.declarations.specs.Items.{written}
use Rattle.search_graph.specs.Meaning.{Meaning}
use Rattle.goal_frames.specs.declared.store.InputId.{InputId}
use Rattle.goal_frames.specs.declared.store.ResponseId.{ResponseId}
use Rattle.goal_frames.specs.declared.frame.GoalFrame.{GoalFrame}
use Rattle.solver_graph.specs.declared.context.SolverCx.{SolverCx}
use Rattle.solver_graph.specs.Evaluations.{IsFoundBySearch}
use Rattle.solver_graph.specs.Searching.{solver_meaning}
use Rattle.text_language.specs.Promised.Declarations.{Declarations}
use Rattle.candidate_assembly.specs.declared.solver.Solver.{Solver}
use Rattle.candidate_assembly.specs.Solving.{Solving}
use Rattle.candidate_assembly.specs.SolverMeaning.{solver_by_view}
use Rattle.sessions.specs.Asking.{IsLeftOpen, asked_alone}
use Rattle.sessions.specs.Fitting.{sorts_in}
use Rattle.sessions.specs.Goals.{HasFormedTerms}
use Rattle.sessions.specs.Promised.Promises.{view_in}
use Rattle.sessions.specs.Sessions.{IsSolvingOf}
use Rattle.sessions.specs.Promised.Subjects.{IsOfText}

-- What the solver's goals mean to the search of a session.
abbrev pub session_meaning : Meaning (SolverCx Solver) InputId (Option ResponseId) GoalFrame
session_meaning = solver_meaning solver_by_view

-- For this trait reference, evaluated alone in coherence within this depth: if it is left open, it is possible in crate c with view V. If
-- it is refused, it is not.
pub record IsToldPossible (s : Solving) (depth : ℕ) (V : World) (c : ℕ) (r : Reference) : Type 0 where
  pub left_open : IsLeftOpen solver_by_view s depth r
      → is_possible depth V c (erased_reference r) ≡ true
  pub refused : IsFoundBySearch session_meaning s depth (asked_alone r) None → is_possible depth V c (erased_reference r) ≡ false

-- This holds for bounded trait references with well-formed terms, by what a crate sees of a text without a fault.
abbrev pub RefusalsAreExact : Type 0
RefusalsAreExact =
    (d : Declarations) → IsOfText d → (c : ℕ) (s : Solving) (of : IsSolvingOf d c s) (r : Reference) → HasFormedTerms (written of.entries of.declarations) (sorts_in of.declarations) r
    → (depth : ℕ) → is_bounded depth (view_in d c) c (erased_reference r) ≡ true → IsToldPossible s depth (view_in d c) c r
