-- How many frames the evaluations of questions start. `FrameBounds` has an upper bound.
use Rattle.std.specs.Prelude.{◌≤◌, ◌+◌, ℕ, List, []}
use Rattle.type_terms.specs.Promised.Label.{Sort}
use Rattle.type_terms.specs.Promised.Worlds.{Reference}
use Rattle.infer_table.specs.Canonical.{GoalTrees}
use Rattle.infer_table.specs.Unification.{table_trees}
use Rattle.infer_table.specs.declared.certainty.TypingMode.TheVariants.{PostAnalysis}
use Rattle.search_graph.specs.SearchState.{SearchState}
use Rattle.goal_frames.specs.Meanings.{HandlerMeaning}
use Rattle.solver_graph.specs.Askings.{AskingsStartFrames, frames_for}
use Rattle.solver_graph.specs.declared.settling.TheConstants.{MAX_ASKINGS}
use Rattle.candidate_assembly.specs.Solving.{Solving}
use Rattle.candidate_assembly.specs.SolverMeaning.{solver_by_view}
use Rattle.text_language.specs.Promised.Declarations.{Question}
use Rattle.text_lowering.specs.Promised.Questions.{variable_kinds}
use Rattle.sessions.specs.Asking.{asked_alone}
use Rattle.sessions.specs.Proving.{goal_asking}
use Rattle.sessions.specs.Tables.{table_of}

module _ {Handler : Type 0} (handler : HandlerMeaning Handler) where
  -- The graph has started at most as many for the trait reference alone, evaluated once in coherence.
  abbrev pub StartsFramesOfOne : handler.goals.World → Reference → SearchState → SearchState → Type 0
  StartsFramesOfOne w r old new = new.frames ≤ old.frames + frames_for handler w old.root_depth (asked_alone r)

  -- A goal over the table with variables of these kinds is evaluated outside coherence until its answer is definite.
  abbrev pub SettlesInFrames : handler.goals.World → ℕ → List Sort → GoalTrees → SearchState → SearchState → Type 0
  SettlesInFrames w depth ks g old new = AskingsStartFrames handler PostAnalysis w depth g MAX_ASKINGS (table_trees [] (table_of ks)) old.frames new.frames

-- The same for a query.
abbrev pub QuestionInFrames : Solving → ℕ → Question → SearchState → SearchState → Type 0
QuestionInFrames s depth q old new = SettlesInFrames solver_by_view s depth (variable_kinds q) (goal_asking s.view q) old new
