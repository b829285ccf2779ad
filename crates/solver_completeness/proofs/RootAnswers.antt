-- The result of a search within its depth is the only result of plain recursion in chains that are one longer.
use Rattle.std.proofs.Common.{◌+◌, Bool, List}
use Rattle.type_terms.specs.Promised.Handles.{Entry}
use Rattle.goal_frames.specs.Notes.{Notes}
use Rattle.infer_table.specs.Canonical.{CanonicalForm}
use Rattle.infer_table.specs.Responses.{AnswerTrees}
use Rattle.goal_evaluator.specs.Tables.{frame_tables}
use Rattle.goal_frames.specs.Programs.{ArePrograms}
use Rattle.solver_graph.specs.Searching.{handles}
use Rattle.candidate_model.specs.Meaning.{ViewMeaning}
use Rattle.solver_completeness.specs.SolverAnswers.{solver_programs}
use Rattle.solver_completeness.specs.RootAnswers.{solver_in, declared_in, RootsAreExact, RootsAreRight, RootsTellPossible}
use Rattle.solver_completeness.proofs.FormedAnswers.{formed-searches-are-exact, formed-searches-are-right, formed-tells-possible}

module _ {W : Type 0} (applicable : AnswerTrees → Bool) (same : AnswerTrees → AnswerTrees → Bool) (meaning_of : W → ViewMeaning) (fits_in : W → CanonicalForm → Bool)
    {Handler : Type 0} (is_ready : Handler → List Entry → Type 0) (declares : Handler → List Entry → W) (are_notes : Handler → List Entry → Notes → Type 0) (programs : ArePrograms frame_tables (solver_programs applicable same meaning_of fits_in)) where
  pub roots-are-exact : RootsAreExact applicable same meaning_of fits_in is_ready declares are_notes
  roots-are-exact c depth n mode sorts admits d q v a g l short found =
      formed-searches-are-exact applicable same meaning_of fits_in
      (handles (solver_in applicable same meaning_of fits_in is_ready declares are_notes))
      programs (declared_in applicable same meaning_of fits_in is_ready declares are_notes c) mode sorts admits d n (depth + 1) q v a l g short found.plain

  pub roots-are-right : RootsAreRight applicable same meaning_of fits_in is_ready declares are_notes
  roots-are-right c depth n sorts admits d q v a g l single found =
      formed-searches-are-right applicable same meaning_of fits_in
      (handles (solver_in applicable same meaning_of fits_in is_ready declares are_notes))
      programs (declared_in applicable same meaning_of fits_in is_ready declares are_notes c) sorts admits d n (depth + 1) q v a l g single found.plain

  pub roots-tell-possible : RootsTellPossible applicable same meaning_of fits_in is_ready declares are_notes
  roots-tell-possible c depth n sorts admits d q v a g l clauses bounded found =
      formed-tells-possible applicable same meaning_of fits_in
      (handles (solver_in applicable same meaning_of fits_in is_ready declares are_notes))
      programs (declared_in applicable same meaning_of fits_in is_ready declares are_notes c) sorts admits d n (depth + 1) q v a l g clauses bounded found.plain
