-- The tables that evaluations of a goal leave, and the solutions that these keep.
use Rattle.std.specs.Prelude.{◌≡◌, Some}
use Rattle.infer_table.specs.Applying.{unknowns_of}
use Rattle.infer_table.specs.Canonical.{GoalTrees, canonical_form}
use Rattle.infer_table.specs.Content.{Table}
use Rattle.infer_table.specs.Covers.{AreKnown, Continues, IsOfKnown}
use Rattle.infer_table.specs.Goals.{goal_trees, goal_resolved}
use Rattle.infer_table.specs.Inputs.{IsWithoutCanonical}
use Rattle.infer_table.specs.Responses.{AnswerTrees}
use Rattle.infer_table.specs.Solutions.{Assignment, Solves}
use Rattle.infer_table.specs.Unification.{TableTrees, table_trees}
use Rattle.infer_table.specs.declared.certainty.TypingMode.{TypingMode}
use Rattle.infer_table.specs.declared.goal.Goal.{Goal}
use Rattle.goal_evaluator.specs.TableAnswers.{put_into}
use Rattle.goal_frames.specs.Meanings.{HandlerMeaning}
use Rattle.solver_graph.specs.Contexts.{entries_of}
use Rattle.solver_graph.specs.Roots.{fact_under, values_in}
use Rattle.solver_graph.specs.Searching.{world_in}
use Rattle.solver_graph.specs.declared.context.SolverCx.{SolverCx}

-- No canonical variable occurs in the goal as the table resolves it. Goal and table contain only the table's inference variables.
pub record IsPosedIn (t : TableTrees) (g : GoalTrees) : Type 0 where
  pub clean : IsWithoutCanonical (goal_resolved t.bindings g)
  pub environment_known : AreKnown (unknowns_of t) (goal_resolved t.bindings g).environment
  pub predicate_known : AreKnown (unknowns_of t) (goal_resolved t.bindings g).predicate
  pub table_known : IsOfKnown (unknowns_of t) t.bindings

module _ {Handler : Type 0} (handler : HandlerMeaning Handler) where
  -- An answer to the goal leaves the second table of the first. No solution is lost at which the goal, in this typing mode, has a proof in
  -- one of the handler's worlds.
  pub record AnswerLeaves (mode : TypingMode) (w : handler.goals.World) (g : GoalTrees) (t u : TableTrees) : Type 0 where
    pub answer : AnswerTrees
    pub left : put_into t (values_in (goal_resolved t.bindings g)) answer ≡ Some u
    pub keeps : IsPosedIn t g → let h = handler.goals.handled w mode (canonical_form (goal_resolved t.bindings g)) in
        (x : h.World) (s : Assignment) → Solves s t.bindings → h.Proves x (fact_under s g) → (r : Assignment) × Continues (unknowns_of t) s r × Solves r u.bindings

  -- So do answers to the goal, one after the other.
  pub data AnswersLeave (mode : TypingMode) (w : handler.goals.World) (g : GoalTrees) (t : TableTrees) : TableTrees → Type 0 where
    itself : AnswersLeave mode w g t t
    further : {u v : TableTrees} → AnswersLeave mode w g t u → AnswerLeaves mode w g u v → AnswersLeave mode w g t v

  -- The same for a goal in a context, and the table that is left in a later one.
  abbrev pub IsLeftByAnswers : SolverCx Handler → Table → TypingMode → Goal → SolverCx Handler → Table → Type 0
  IsLeftByAnswers c t mode g d u = AnswersLeave mode (world_in handler c) (goal_trees (entries_of c) g) (table_trees (entries_of c) t) (table_trees (entries_of d) u)
