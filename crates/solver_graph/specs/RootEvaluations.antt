-- What `evaluate_root_goal` promises: the state afterwards, its costs, its result, and its errors.
use Rattle.std.specs.Prelude.{◌≡◌, List, Option, Some, None, IfErr, OnErr, Result, Err}
use Rattle.type_terms.specs.Promised.Handles.{Keeps}
use Rattle.infer_table.specs.Content.{Table, Ready, Grows, content}
use Rattle.infer_table.specs.Goals.{GoalHeld, goal_trees}
use Rattle.infer_table.specs.Responses.{AnswerTrees}
use Rattle.infer_table.specs.Solutions.{Assignment, Solves}
use Rattle.infer_table.specs.Unification.{table_trees}
use Rattle.infer_table.specs.declared.certainty.Certainty.TheVariants.{Yes}
use Rattle.infer_table.specs.declared.certainty.TypingMode.{TypingMode}
use Rattle.infer_table.specs.declared.goal.Goal.{Goal}
use Rattle.search_graph.specs.Cache.{KnownResult, AreJustified, AreConsistent, HasConflict, KeepsResults}
use Rattle.search_graph.specs.Meaning as Search
use Rattle.search_graph.specs.SearchState.{SearchState}
use Rattle.goal_evaluator.specs.TableAnswers.{put_into}
use Rattle.goal_evaluator.specs.declared.goal.HasChanged.TheVariants.{No}
use Rattle.goal_frames.specs.Meanings.{HandlerMeaning}
use Rattle.goal_frames.specs.declared.store.InputId.{InputId}
use Rattle.goal_frames.specs.declared.store.ResponseId.{ResponseId}
use Rattle.solver_graph.specs.Contexts.{Asked, entries_of, IsReady, KeepsLimits}
use Rattle.solver_graph.specs.Evaluations.{asked_in, Says}
use Rattle.solver_graph.specs.Results.{FramesAreBounded, KnownIsFree, LimitsAreNoted, IsNotPlainWithin, IsResult}
use Rattle.solver_graph.specs.Roots.{goal_in, values_in, left_by, SolutionsAreProved, AtProvedSolutions, SolutionGoesOn}
use Rattle.solver_graph.specs.Searching.{solver_meaning, world_in}
use Rattle.solver_graph.specs.Shortages.{RootFullAtLimit}
use Rattle.solver_graph.specs.declared.context.SolverCx.{SolverCx}
use Rattle.solver_graph.specs.declared.outcome.GoalEvaluation.{GoalEvaluation}
use Rattle.solver_graph.specs.declared.outcome.RootError.{RootError}
use Rattle.solver_graph.specs.declared.outcome.RootError.TheVariants.{NoSolution, Conflict}

-- A cache as its known results.
abbrev pub KnownResults : Type 0
KnownResults = List (KnownResult InputId (Option ResponseId))

-- The canonical form of a goal of the table.
abbrev pub goal_asked : {Handler : Type 0} → SolverCx Handler → Table → TypingMode → Goal → Asked
goal_asked c t mode g = asked_in mode (entries_of c) t g

module _ {Handler : Type 0} (m : HandlerMeaning Handler) (c : SolverCx Handler) (t : Table) where
  -- The property holds at each solution of the table at which the goal has a proof.
  abbrev pub AtProved : TypingMode → Goal → (Assignment → Type 0) → Type 0
  AtProved mode g P = AtProvedSolutions (m.goals.handled (world_in m c)) mode (entries_of c) t g P

  -- A definite yes: each instance of the goal by a solution of the table has a proof.
  abbrev pub YesIsProved : Goal → GoalEvaluation → Type 0
  YesIsProved g e =
      e.certainty ≡ Yes → e.has_changed ≡ No → SolutionsAreProved (m.goals.Rule (world_in m c)) (m.goals.coinductive (world_in m c)) (entries_of c) t g

-- A context, a graph, a cache and a table, before and after the call.
module _ {Handler : Type 0} (m : HandlerMeaning Handler) (c : SolverCx Handler) (graph : SearchState) (ks : KnownResults) (t : Table)
    (d : SolverCx Handler) (graph_left : SearchState) (ls : KnownResults) (u : Table) where
  -- All can be used again: no search runs, the cache is justified, handles are of the context's interner, and nothing is lost.
  pub record LeavesAtRest : Type 0 where
    pub empty : graph_left.current_depth ≡ 0
    pub depth : graph_left.root_depth ≡ graph.root_depth
    pub cache : AreJustified (solver_meaning m) d ls
    pub consistent : AreConsistent ks → AreConsistent ls
    pub results : KeepsResults ks ls
    pub ready : IsReady m.IsReady d
    pub keeps : Search.KeepsContext (solver_meaning m) c d
    pub entries : Keeps (entries_of c) (entries_of d)
    pub limits : KeepsLimits c d
    pub table : Ready (entries_of d) u
    pub grows : Grows t u

  -- The costs of the search: a bounded number of frames, and none for a goal whose response is cached. A limit is reached only
  -- for a goal that plain recursion does not answer within the depth, and is noted.
  pub record Costs (mode : TypingMode) (g : Goal) : Type 0 where
    pub frames : FramesAreBounded (solver_meaning m) c (goal_asked c t mode g) graph graph_left
    pub cached : KnownIsFree (solver_meaning m) c ks (goal_asked c t mode g) graph graph_left ls
    pub limits : LimitsAreNoted (solver_meaning m) c (goal_asked c t mode g) graph graph_left

  -- The search gives the goal this response. If the cache had a response, it is this one, and afterwards the cache has it.
  abbrev pub IsGivenBySearch : TypingMode → Goal → Option AnswerTrees → Type 0
  IsGivenBySearch mode g a = IsResult (solver_meaning m) c ks graph d ls graph_left (goal_asked c t mode g) a

  -- The result contains the goal as the table resolves it, and has the certainty and changes of the search's response. The
  -- response is applied to the table: no solution is lost at which the goal has a proof, and none is gained.
  pub record SaysAnswer (mode : TypingMode) (g : Goal) (e : GoalEvaluation) : Type 0 where
    pub held : GoalHeld (entries_of d) e.goal
    pub resolved : goal_trees (entries_of d) e.goal ≡ goal_in (entries_of c) t g
    pub answer : (a : AnswerTrees) × IsGivenBySearch mode g (Some a) × Says e a × (put_into (table_trees (entries_of c) t) (values_in (goal_in (entries_of c) t g)) a ≡ Some (table_trees (entries_of d) u))
    pub covers : AtProved m c t mode g (λ s. SolutionGoesOn s t (entries_of d) u)
    pub narrows : (s : Assignment) → Solves s (content (entries_of d) u.values) → Solves s (content (entries_of c) t.values)

  -- After any error the table is unchanged. `NoSolution` is returned if the search has no response to the goal, or the response
  -- cannot be applied. Then the goal has a proof at no solution.
  pub record Refuses (mode : TypingMode) (g : Goal) (result : Result GoalEvaluation RootError) : Type 0 where
    pub unchanged : OnErr result (u ≡ t)
    pub answer : result ≡ Err NoSolution → (a : Option AnswerTrees) × IsGivenBySearch mode g a × (left_by (table_trees (entries_of c) t) (goal_in (entries_of c) t g) a ≡ None)
    pub no_proof : result ≡ Err NoSolution → AtProved m c t mode g (λ s. ⊥)

  -- A goal that plain recursion answers within the depth has no conflict. `Full` is returned only if the context is at a limit.
  pub record EndsByFault (mode : TypingMode) (g : Goal) (result : Result GoalEvaluation RootError) : Type 0 where
    pub not_plain : result ≡ Err Conflict → IsNotPlainWithin (solver_meaning m) c graph (goal_asked c t mode g)
    pub conflict : result ≡ Err Conflict → HasConflict (solver_meaning m) d ls
    pub full : IfErr result (RootFullAtLimit d)
