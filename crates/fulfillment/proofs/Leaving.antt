-- Tables that answers to several goals leave, one after the other.
use Rattle.std.specs.Prelude.{Contains}
use Rattle.std.proofs.Common.{List}
use Rattle.infer_table.specs.Canonical.{GoalTrees}
use Rattle.infer_table.specs.Content.{Table}
use Rattle.infer_table.specs.Goals.{goal_trees}
use Rattle.infer_table.specs.Unification.{TableTrees, table_trees}
use Rattle.infer_table.specs.declared.certainty.TypingMode.{TypingMode}
use Rattle.infer_table.specs.declared.goal.Goal.{Goal}
use Rattle.goal_frames.specs.Meanings.{HandlerMeaning}
use Rattle.search_graph.specs.SearchState.{SearchState}
use Rattle.solver_graph.specs.Contexts.{entries_of}
use Rattle.solver_graph.specs.LeftTables.{AnswerLeaves, AnswersLeave}
use Rattle.solver_graph.specs.LeftTables as Left
use Rattle.solver_graph.specs.Searching.{world_in}
use Rattle.solver_graph.specs.Settling.{GoalIsRefused}
use Rattle.solver_graph.specs.declared.context.SolverCx.{SolverCx}
use Rattle.solver_graph.proofs.LeftTables.{posed-goal}
use Rattle.fulfillment.specs.Leaving.{GoalsLeave, itself, further, IsRefusedOver}

module _ {Handler : Type 0} (handler : HandlerMeaning Handler) (mode : TypingMode) where
  -- ---- one after the other
  pub leave-after : (w : handler.goals.World) (gs : List GoalTrees) (t u v : TableTrees) → GoalsLeave handler mode w gs t u → GoalsLeave handler mode w gs u v → GoalsLeave handler mode w gs t v
  leave-after w gs t u v a itself = a
  leave-after w gs t u v a (further {u = x} b g i l) = further (leave-after w gs t u x a b) g i l

  -- answers to one of the goals
  pub leave-by : (w : handler.goals.World) (gs : List GoalTrees) (g : GoalTrees) (t u : TableTrees) → Contains gs g → AnswersLeave handler mode w g t u → GoalsLeave handler mode w gs t u
  leave-by w gs g t u i Left.itself = itself
  leave-by w gs g t u i (Left.further {u = x} a l) = further (leave-by w gs g t x i a) g i l

  -- ---- a refusal
  pub refused-over : (c : SolverCx Handler) (graph : SearchState) (t : Table) (g : Goal) → GoalIsRefused handler c graph t mode g
      → IsRefusedOver handler mode (world_in handler c) graph.root_depth (table_trees (entries_of c) t) (goal_trees (entries_of c) g)
  refused-over c graph t g r = record {
    answer = r.0;
    found = r.1;
    refused = r.2;
    no_proof = λ p x s solves proof. r.3 (posed-goal (entries_of c) t g p) x s solves proof;
  }

  -- ---- what lasts
  -- what each answer to one of the goals preserves holds of the last table
  pub lasting : (w : handler.goals.World) (gs : List GoalTrees) (Holds : TableTrees → Type 0) → ((u v : TableTrees) (g : GoalTrees) → Contains gs g → AnswerLeaves handler mode w g u v → Holds u → Holds v)
      → (t u : TableTrees) → GoalsLeave handler mode w gs t u → Holds t → Holds u
  lasting w gs Holds each t u itself h = h
  lasting w gs Holds each t v (further {u = u} a g i l) h = each u v g i l (lasting w gs Holds each t u a h)
