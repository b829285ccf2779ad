-- Tables that evaluations leave, one after the other.
use Rattle.std.proofs.Common.{◌≡◌, ℕ, List, sym, subst, Some}
use Rattle.type_terms.specs.Promised.Handles.{Entry, Keeps}
use Rattle.type_terms.specs.Promised.Label.{Sort}
use Rattle.infer_table.specs.Canonical.{GoalTrees}
use Rattle.infer_table.specs.Content.{Table, Ready, content}
use Rattle.infer_table.specs.Covers.{AreKnown, Continues, IsOfKnown}
use Rattle.infer_table.specs.Goals.{GoalHeld, goal_trees}
use Rattle.infer_table.specs.Responses.{AnswerTrees}
use Rattle.infer_table.specs.Unification.{TableTrees, table_trees}
use Rattle.infer_table.specs.declared.certainty.TypingMode.{TypingMode}
use Rattle.infer_table.specs.declared.goal.Goal.{Goal}
use Rattle.infer_table.proofs.Covers.{same-unknowns}
use Rattle.infer_table.proofs.Numbers.{goal-trees-later}
use Rattle.infer_table.proofs.PairFacts.{table-kept}
use Rattle.goal_evaluator.specs.TableAnswers.{put_into}
use Rattle.goal_frames.specs.Meanings.{HandlerMeaning}
use Rattle.search_graph.specs.SearchState.{SearchState}
use Rattle.solver_graph.specs.Contexts.{entries_of}
use Rattle.solver_graph.specs.LeftTables.{IsPosedIn, AnswersLeave, itself, further, IsLeftByAnswers}
use Rattle.solver_graph.specs.RootEvaluations.{KnownResults, AtProved}
use Rattle.solver_graph.specs.Roots.{goal_in, values_in, IsPosedGoal, SolutionGoesOn}
use Rattle.solver_graph.specs.Settling.{HasAsked}
use Rattle.solver_graph.specs.Searching.{world_in}
use Rattle.solver_graph.specs.declared.context.SolverCx.{SolverCx}

-- what is posed in a table's trees is posed in the table
pub posed-goal : (es : List Entry) (t : Table) (g : Goal) → IsPosedIn (table_trees es t) (goal_trees es g) → IsPosedGoal es t g
posed-goal es t g p =
    let same = same-unknowns es t in
    record {
      clean = p.clean;
      environment_known = subst (λ (n : Sort → ℕ). AreKnown n (goal_in es t g).environment) same p.environment_known;
      predicate_known = subst (λ (n : Sort → ℕ). AreKnown n (goal_in es t g).predicate) same p.predicate_known;
      table_known = subst (λ (n : Sort → ℕ). IsOfKnown n (content es t.values)) same p.table_known;
    }

module _ {Handler : Type 0} (handler : HandlerMeaning Handler) (mode : TypingMode) where
  abbrev Left : SolverCx Handler → Table → Goal → SolverCx Handler → Table → Type 0
  Left c t g d u = IsLeftByAnswers handler c t mode g d u

  -- ---- one evaluation
  pub left-once : (c d : SolverCx Handler) (t u : Table) (g : Goal) (a : AnswerTrees) → put_into (table_trees (entries_of c) t) (values_in (goal_in (entries_of c) t g)) a ≡ Some (table_trees (entries_of d) u)
      → AtProved handler c t mode g (λ s. SolutionGoesOn s t (entries_of d) u) → Left c t g d u
  left-once c d t u g a e covers =
      further itself
      (record {
        answer = a;
        left = e;
        keeps = λ p x s h q.
            let r = covers (posed-goal (entries_of c) t g p) x s h q in
            (r.0, subst (λ (n : Sort → ℕ). Continues n s r.0) (sym (same-unknowns (entries_of c) t)) r.1, r.2);
      })

  -- an evaluation that fails leaves the table
  pub left-refused : (c d : SolverCx Handler) (t u : Table) (g : Goal) → Keeps (entries_of c) (entries_of d) → Ready (entries_of c) t → u ≡ t → Left c t g d u
  left-refused c d t u g k ready e =
      subst (λ (z : Table). Left c t g d z) (sym e)
      (subst (AnswersLeave handler mode (world_in handler c) (goal_trees (entries_of c) g) (table_trees (entries_of c) t)) (sym (table-kept (entries_of c) (entries_of d) k t ready)) itself)

  -- ---- one after the other
  after : (w : handler.goals.World) (g : GoalTrees) (t u v : TableTrees) → AnswersLeave handler mode w g t u → AnswersLeave handler mode w g u v → AnswersLeave handler mode w g t v
  after w g t u v a itself = a
  after w g t u v a (further {u = x} b l) = further (after w g t u x a b) l

  pub left-further : (f h : SearchState) (ks ls : KnownResults) (c d e : SolverCx Handler) (t u v : Table) (g : Goal) → GoalHeld (entries_of c) g → HasAsked handler f ks c t h ls d u
      → Left c t g d u → Left d u g e v → Left c t g e v
  left-further f h ks ls c d e t u v g held asked a b =
      let trees : goal_trees (entries_of d) g ≡ goal_trees (entries_of c) g = goal-trees-later (entries_of c) (entries_of d) asked.entries g held in
      after (world_in handler c) (goal_trees (entries_of c) g) (table_trees (entries_of c) t) (table_trees (entries_of d) u) (table_trees (entries_of e) v) a
      (subst (λ (z : GoalTrees). AnswersLeave handler mode (world_in handler c) z (table_trees (entries_of d) u) (table_trees (entries_of e) v)) trees
      (subst (λ (z : handler.goals.World). AnswersLeave handler mode z (goal_trees (entries_of d) g) (table_trees (entries_of d) u) (table_trees (entries_of e) v)) asked.keeps.world b))
