-- The evaluation of a candidate, over terms.
use Rattle.std.specs.Prelude.{List, map, Option, Some, None}
use Rattle.type_terms.specs.Promised.Trees.{Trees}
use Rattle.type_terms.specs.Promised.Handles.{Entry}
use Rattle.infer_table.specs.Certainties.{joined}
use Rattle.infer_table.specs.Constraints.{constraints_trees}
use Rattle.infer_table.specs.Worklists.{equation_trees}
use Rattle.infer_table.specs.declared.canonical.CanonicalVarKind.{CanonicalVarKind}
use Rattle.infer_table.specs.declared.certainty.Certainty.{Certainty}
use Rattle.infer_table.specs.declared.certainty.TypingMode.{TypingMode}
use Rattle.infer_table.specs.declared.terms.Equation.{Equation}
use Rattle.infer_table.specs.declared.goal.Goal.{Goal}
use Rattle.infer_table.specs.Responses.{AnswerTrees}
use Rattle.goal_evaluator.specs.Script.{Script, done, followed}
use Rattle.goal_evaluator.specs.Rounds.{Rounds, rounds}
use Rattle.goal_evaluator.specs.declared.TheConstants.{FIXPOINT_STEP_LIMIT}
use Rattle.goal_evaluator.specs.declared.candidate.CandidateSpec.{CandidateSpec}
use Rattle.goal_evaluator.specs.declared.goal.GoalSource.{GoalSource}
use Rattle.goal_evaluator.specs.Context.{nested_goal}
use Rattle.goal_evaluator.specs.Evaluating.{AskedQuestion, NestedTrees, goals_trees, evaluation}
use Rattle.goal_evaluator.specs.Frames.{FrameTrees, fresh, equate, recorded, nested_filled, respond}

-- a candidate as data, over terms
pub record SpecTrees : Type 0 where
  pub kinds : List CanonicalVarKind
  pub equations : List (Trees × Trees)
  pub constraints : Trees
  pub nested : List NestedTrees
  pub certainty : Certainty

abbrev pub equations_trees : List Entry → List Equation → List (Trees × Trees)
equations_trees es xs = map (equation_trees es) xs

abbrev pub premises_trees : List Entry → List (GoalSource × Goal) → List NestedTrees
premises_trees es ns = goals_trees es (map nested_goal ns)

abbrev pub spec_trees : List Entry → CandidateSpec → SpecTrees
spec_trees es s =
    record {
      kinds = s.variables.items;
      equations = equations_trees es s.equations.items;
      constraints = constraints_trees es s.region_constraints.items;
      nested = premises_trees es s.nested_goals.items;
      certainty = s.certainty;
    }

module _ (mode : TypingMode) where
  abbrev pub Asking : Type 0
  Asking = Script AskedQuestion (Option AnswerTrees) (Option AnswerTrees)

  -- a response at most as certain as the candidate, or `None` without a solution
  abbrev pub answered : FrameTrees → Certainty → Option (Rounds (evaluation mode)) → Asking
  answered t c None = done None
  answered t c (Some o) = done (Some (respond (record t { table = o.table }) (joined c o.certainty)))

  -- evaluates the nested goals in rounds
  abbrev pub asked_in_rounds : List NestedTrees → Certainty → FrameTrees → Asking
  asked_in_rounds ns c t = followed (answered t c) (rounds (evaluation mode) FIXPOINT_STEP_LIMIT (map (nested_filled t.values) ns) t.table)

  abbrev pub equated : SpecTrees → Option FrameTrees → Asking
  equated s None = done None
  equated s (Some t) = asked_in_rounds s.nested s.certainty (recorded t s.constraints)

  -- makes new inference variables, then handles the equations, the constraints and the nested goals in this order
  abbrev pub candidate : FrameTrees → SpecTrees → Asking
  candidate t s = equated s (equate (fresh t s.kinds) s.equations)
