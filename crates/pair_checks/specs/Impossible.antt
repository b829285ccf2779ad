-- Trait references that are evaluated alone, in coherence and without where-clauses.
use Rattle.std.specs.Prelude.{◌≡◌, ◌⊎◌, List, Some, Result, Err, IsOk}
use Rattle.type_terms.specs.Promised.Label.{of_trait, predicate}
use Rattle.type_terms.specs.Promised.Trees.{none, tree}
use Rattle.type_terms.specs.Promised.Worlds.{Reference}
use Rattle.type_terms.specs.Promised.Handles.{Entry}
use Rattle.term_folds.specs.declared.predicate.TraitRef.{TraitRef}
use Rattle.infer_table.specs.Canonical.{GoalTrees, CanonicalForm, canonical_form}
use Rattle.infer_table.specs.Content.{Table, content, variables_of}
use Rattle.infer_table.specs.Covers.{IsOfKnown}
use Rattle.infer_table.specs.Goals.{goal_resolved}
use Rattle.infer_table.specs.Responses.{AnswerTrees}
use Rattle.infer_table.specs.Solutions.{Assignment, Solves}
use Rattle.infer_table.specs.declared.certainty.TypingMode.{TypingMode}
use Rattle.infer_table.specs.declared.certainty.TypingMode.TheVariants.{Coherence}
use Rattle.declarations.specs.Items.{reference_in}
use Rattle.overlap_check.specs.Headers.{IsOfTable}
use Rattle.goal_evaluator.specs.Handler.{Handled}
use Rattle.goal_evaluator.specs.Tables.{frame_tables}
use Rattle.search_graph.specs.SearchState.{SearchState}
use Rattle.solver_graph.specs.declared.context.SolverCx.{SolverCx}
use Rattle.solver_graph.specs.declared.outcome.GoalEvaluation.{GoalEvaluation}
use Rattle.solver_graph.specs.declared.outcome.RootError.{RootError}
use Rattle.solver_graph.specs.declared.outcome.RootError.TheVariants.{Conflict}
use Rattle.solver_graph.specs.Contexts.{Asked, entries_of}
use Rattle.solver_graph.specs.Evaluations.{IsFoundBySearch}
use Rattle.solver_graph.specs.Results.{IsNotPlainWithin}
use Rattle.solver_graph.specs.Roots.{fact_under}
use Rattle.solver_graph.specs.Searching.{solver_meaning, world_in}
use Rattle.goal_frames.specs.Meanings.{HandlerMeaning}

-- The trait reference as a goal without where-clauses.
abbrev pub alone : Reference → GoalTrees
alone r = record { environment = none; predicate = tree (predicate (of_trait r.trait)) r.args none }

-- That goal, as the table resolves it.
abbrev pub resolved_alone : List Entry → Table → TraitRef → GoalTrees
resolved_alone es t r = goal_resolved (content es t.values) (alone (reference_in es r))

-- The goal that the search evaluates.
abbrev pub asked_alone : List Entry → Table → TraitRef → Asked
asked_alone es t r = (Coherence, canonical_form (resolved_alone es t r))

-- The evaluation gave an answer, or found that two answers to some goal differ. Neither refuses the goal.
abbrev pub IsNoRefusal : Result GoalEvaluation RootError → Type 0
IsNoRefusal e = IsOk e ⊎ (e ≡ Err Conflict)

-- The goal has no proof in any of the worlds in which a handler looks for its solutions, at any solution of the table, if both hold the
-- table's own variables alone.
abbrev pub HasNoProofInWorlds : (TypingMode → CanonicalForm → Handled frame_tables) → List Entry → Table → TraitRef → Type 0
HasNoProofInWorlds handled es t r =
    IsOfKnown (variables_of t) (content es t.values) → IsOfTable es t r → let h = handled Coherence (asked_alone es t r).1 in
    (x : h.World) (s : Assignment) → Solves s (content es t.values) → h.Proves x (fact_under s (alone (reference_in es r))) → ⊥

module _ {Handler : Type 0} (handler : HandlerMeaning Handler) where
  -- The same by the rules of a context's handler.
  abbrev pub IsImpossible : SolverCx Handler → Table → TraitRef → Type 0
  IsImpossible c t r = HasNoProofInWorlds (handler.goals.handled (handler.world c.handler (entries_of c))) (entries_of c) t r

module _ {Handler : Type 0} (handler : HandlerMeaning Handler) where
  -- The search gives the goal this answer.
  abbrev pub SearchAnswers : SolverCx Handler → SearchState → Table → TraitRef → AnswerTrees → Type 0
  SearchAnswers c s t r a =
      IsFoundBySearch (solver_meaning handler) (world_in handler c) s.root_depth (asked_alone (entries_of c) t r) (Some a)

  -- The search gives the goal an answer that is no refusal, or plain recursion within the graph's depth has none.
  abbrev pub SearchLeavesOpen : SolverCx Handler → SearchState → Table → TraitRef → Type 0
  SearchLeavesOpen c s t r =
      ((a : AnswerTrees) × SearchAnswers c s t r a) ⊎ IsNotPlainWithin (solver_meaning handler) c s (asked_alone (entries_of c) t r)
