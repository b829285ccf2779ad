-- How many frames a goal starts that is evaluated again and again, each time with the answers of the search to those before it.
use Rattle.std.specs.Prelude.{◌≡◌, ◌≤◌, ◌+◌, ◌⊎◌, ℕ, zero, suc, List, Some}
use Rattle.type_terms.specs.Promised.Trees.{IsA}
use Rattle.infer_table.specs.Canonical.{GoalTrees, canonical_form}
use Rattle.infer_table.specs.Content.{Table, content}
use Rattle.infer_table.specs.Goals.{goal_trees, goal_resolved}
use Rattle.infer_table.specs.Responses.{AnswerTrees}
use Rattle.infer_table.specs.Solutions.{Binding}
use Rattle.infer_table.specs.Unification.{TableTrees, table_trees}
use Rattle.infer_table.specs.declared.certainty.TypingMode.{TypingMode}
use Rattle.infer_table.specs.declared.goal.Goal.{Goal}
use Rattle.search_graph.specs.Promised.FrameBound.{frame_bound}
use Rattle.search_graph.specs.SearchState.{SearchState}
use Rattle.goal_evaluator.specs.Lists.{Every}
use Rattle.goal_evaluator.specs.declared.TheConstants.{FIXPOINT_STEP_LIMIT}
use Rattle.goal_frames.specs.Meanings.{HandlerMeaning}
use Rattle.solver_graph.specs.Contexts.{Asked, entries_of}
use Rattle.solver_graph.specs.Evaluations.{asked_in, IsFoundBySearch}
use Rattle.solver_graph.specs.Roots.{goal_in, left_by}
use Rattle.solver_graph.specs.Searching.{solver_meaning, world_in}
use Rattle.solver_graph.specs.declared.context.SolverCx.{SolverCx}

-- The values are terms of their variables' kinds.
abbrev pub AreTermsOfSorts : List Binding → Type 0
AreTermsOfSorts bs = Every (λ (b : Binding). IsA b.sort b.value) bs

module _ {Handler : Type 0} (handler : HandlerMeaning Handler) where
  -- An upper bound for the frames of a goal that is evaluated once at this depth: `frame_bound` of how many nested goals a run has at most.
  abbrev pub frames_for : handler.goals.World → ℕ → Asked → ℕ
  frames_for w depth g = let m = solver_meaning handler in frame_bound FIXPOINT_STEP_LIMIT (m.number_of w g) depth

  -- From the first count of frames, at most the second is reached by this many evaluations of the goal over this table. Each adds the
  -- frames of what it evaluates, and goes on with the table that an answer of the search leaves.
  unfoldable pub AskingsStartFrames : TypingMode → handler.goals.World → ℕ → GoalTrees → ℕ → TableTrees → ℕ → ℕ → Type 0
  AskingsStartFrames mode w depth g zero t before after = after ≤ before
  AskingsStartFrames mode w depth g (suc k) t before after =
      let resolved = goal_resolved t.bindings g in
      let asked : Asked = (mode, canonical_form resolved) in
      (after ≤ before + frames_for w depth asked)
      ⊎ ((a : AnswerTrees) × IsFoundBySearch (solver_meaning handler) w depth asked (Some a)
      × ((u : TableTrees) × (left_by t resolved (Some a) ≡ Some u) × AreTermsOfSorts u.bindings × AskingsStartFrames mode w depth g k u (before + frames_for w depth asked) after))

  -- The same for a goal in a context, with the frames that the graph has started.
  abbrev pub AskingsOf : ℕ → SolverCx Handler → SearchState → Table → TypingMode → Goal → SearchState → Type 0
  AskingsOf k c graph t mode g left =
      AskingsStartFrames mode (world_in handler c) graph.root_depth (goal_trees (entries_of c) g) k (table_trees (entries_of c) t) graph.frames left.frames

  -- One evaluation of it starts at most its frames.
  abbrev pub StartsFramesOfAsking : SolverCx Handler → SearchState → Table → TypingMode → Goal → SearchState → Type 0
  StartsFramesOfAsking c graph t mode g left = left.frames ≤ graph.frames + frames_for (world_in handler c) graph.root_depth (asked_in mode (entries_of c) t g)

  -- An answer that the search gives to it leaves the second table.
  abbrev pub IsLeftByAnswer : SolverCx Handler → SearchState → Table → TypingMode → Goal → SolverCx Handler → Table → Type 0
  IsLeftByAnswer c graph t mode g d u =
      (a : AnswerTrees) × IsFoundBySearch (solver_meaning handler) (world_in handler c) graph.root_depth (asked_in mode (entries_of c) t g) (Some a)
      × (left_by (table_trees (entries_of c) t) (goal_in (entries_of c) t g) (Some a) ≡ Some (table_trees (entries_of d) u)) × AreTermsOfSorts (content (entries_of d) u.values)
