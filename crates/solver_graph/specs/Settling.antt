-- A goal is evaluated until its answer is definite: what each evaluation needs and preserves, and what the outcomes say.
use Rattle.std.specs.Prelude.{◌≡◌, ◌⊎◌, false, Option, Some, None}
use Rattle.type_terms.specs.Promised.Handles.{Keeps}
use Rattle.infer_table.specs.Content.{Table, content, Ready, Grows}
use Rattle.infer_table.specs.Goals.{GoalHeld, goal_trees}
use Rattle.infer_table.specs.Inputs.{IsWithoutCanonical}
use Rattle.infer_table.specs.Responses.{AnswerTrees}
use Rattle.infer_table.specs.Solutions.{Assignment, Solves}
use Rattle.infer_table.specs.Unification.{table_trees}
use Rattle.infer_table.specs.WithoutCanonical.{HaveNoCanonical}
use Rattle.infer_table.specs.declared.certainty.TypingMode.{TypingMode}
use Rattle.infer_table.specs.declared.goal.Goal.{Goal}
use Rattle.search_graph.specs.Cache.{AreJustified, AreConsistent, KeepsResults}
use Rattle.search_graph.specs.Meaning as Search
use Rattle.search_graph.specs.SearchState.{SearchState}
use Rattle.goal_evaluator.specs.Content.{Fact}
use Rattle.goal_evaluator.specs.Proof as Lists
use Rattle.goal_evaluator.specs.Tables.{frame_tables}
use Rattle.goal_frames.specs.Searches.{is_yes_answer}
use Rattle.solver_graph.specs.Contexts.{entries_of, IsReady}
use Rattle.solver_graph.specs.Evaluations.{asked_in, IsFoundBySearch}
use Rattle.solver_graph.specs.Results.{IsCachedAnswer, IsNotPlainWithin}
use Rattle.solver_graph.specs.RootEvaluations.{KnownResults}
use Rattle.solver_graph.specs.Roots.{goal_in, fact_under, left_by, AtProvedSolutions}
use Rattle.solver_graph.specs.Searching.{solver_meaning, world_in}
use Rattle.solver_graph.specs.declared.context.SolverCx.{SolverCx}
use Rattle.goal_frames.specs.Meanings.{HandlerMeaning}

module _ {Handler : Type 0} (handler : HandlerMeaning Handler) where
  -- The goal can be evaluated in the table: no search runs, the cache is justified, and all handles are the context's.
  pub record IsAskable (graph : SearchState) (ks : KnownResults) (c : SolverCx Handler) (t : Table) (g : Goal) : Type 0 where
    pub empty : graph.current_depth ≡ 0
    pub cache : AreJustified (solver_meaning handler) c ks
    pub ready : IsReady handler.IsReady c
    pub table : Ready (entries_of c) t
    pub goal : GoalHeld (entries_of c) g

  -- What evaluations preserve: the graph's depth, and all that the cache, the context and the table had. Each solution of the table is one
  -- of the table before, and no canonical variable has come into it.
  pub record HasAsked (graph : SearchState) (ks : KnownResults) (c : SolverCx Handler) (t : Table)
      (graph_left : SearchState) (ls : KnownResults) (d : SolverCx Handler) (u : Table) : Type 0 where
    pub depth : graph_left.root_depth ≡ graph.root_depth
    pub results : KeepsResults ks ls
    pub consistent : AreConsistent ks → AreConsistent ls
    pub keeps : Search.KeepsContext (solver_meaning handler) c d
    pub entries : Keeps (entries_of c) (entries_of d)
    pub grows : Grows t u
    pub narrows : (s : Assignment) → Solves s (content (entries_of d) u.values) → Solves s (content (entries_of c) t.values)
    pub clean : HaveNoCanonical (content (entries_of c) t.values) → HaveNoCanonical (content (entries_of d) u.values)

  -- The goal of a table, both without canonical variables, has a proof at each solution of the table that is left.
  abbrev pub IsProvedBy : handler.goals.World → SolverCx Handler → Table → SolverCx Handler → Table → Goal → Type 0
  IsProvedBy w c t d u g =
      HaveNoCanonical (content (entries_of c) t.values) → IsWithoutCanonical (goal_trees (entries_of c) g)
      → (s : Assignment) → Solves s (content (entries_of d) u.values) → Lists.FactHasProof Fact (handler.goals.Rule w) (handler.goals.coinductive w) (fact_under s (goal_trees (entries_of c) g))

  -- The search of a graph with this depth refuses the goal, or gives an answer that the table refuses. Then the goal has a proof at no solution
  -- of the table.
  abbrev pub GoalIsRefused : SolverCx Handler → SearchState → Table → TypingMode → Goal → Type 0
  GoalIsRefused c graph t mode g =
      (a : Option AnswerTrees) × IsFoundBySearch (solver_meaning handler) (world_in handler c) graph.root_depth (asked_in mode (entries_of c) t g) a
      × (left_by (table_trees (entries_of c) t) (goal_in (entries_of c) t g) a ≡ None)
      × AtProvedSolutions (handler.goals.handled (world_in handler c)) mode (entries_of c) t g (λ s. ⊥)

  -- The cache that the search leaves has a result for the goal that the table refuses. Of a goal that ends in a conflict nothing says so.
  abbrev pub RefusalIsKept : SolverCx Handler → SearchState → Table → TypingMode → Goal → SolverCx Handler → KnownResults → Type 0
  RefusalIsKept c graph t mode g d ls =
      (a : Option AnswerTrees) × IsCachedAnswer (solver_meaning handler) d ls graph.root_depth (asked_in mode (entries_of c) t g) a
      × (left_by (table_trees (entries_of c) t) (goal_in (entries_of c) t g) a ≡ None)

  -- The search gives an answer that is no definite yes, or plain recursion has none within the depth.
  abbrev pub IsUnsettled : SolverCx Handler → SearchState → Table → TypingMode → Goal → Type 0
  IsUnsettled c graph t mode g =
      IsNotPlainWithin (solver_meaning handler) c graph (asked_in mode (entries_of c) t g)
      ⊎ ((a : AnswerTrees) × IsFoundBySearch (solver_meaning handler) (world_in handler c) graph.root_depth (asked_in mode (entries_of c) t g) (Some a) × (is_yes_answer frame_tables (Some a) ≡ false))
