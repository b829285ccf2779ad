-- A candidate that is evaluated in code has the same nested goals and result as over the tables of frames.
use Rattle.std.specs.Prelude.{◌≡◌, Bool, List, Option}
use Rattle.type_terms.specs.Promised.Label.{Label}
use Rattle.type_terms.specs.Promised.Trees.{Trees}
use Rattle.infer_table.specs.declared.canonical.CanonicalVarKind.{CanonicalVarKind}
use Rattle.infer_table.specs.declared.certainty.TypingMode.{TypingMode}
use Rattle.infer_table.specs.Responses.{AnswerTrees}
use Rattle.goal_evaluator.specs.declared.TheConstants.{FIXPOINT_STEP_LIMIT}
use Rattle.goal_evaluator.specs.Lists.{Pairwise}
use Rattle.goal_evaluator.specs.Table.{workings, operations}
use Rattle.goal_evaluator.specs.Candidate.{Spec}
use Rattle.goal_evaluator.specs.Candidate as Frames
use Rattle.goal_evaluator.specs.Readings.{is_coinductive_step}
use Rattle.goal_evaluator.specs.Replays.{run}
use Rattle.goal_evaluator.specs.Correspondences.{AreAnswers, Runs}
use Rattle.goal_evaluator.specs.FrameTables.{Nested, Equation}
use Rattle.goal_evaluator.specs.TableOperations.{begin, fresh}
use Rattle.goal_evaluator.specs.Tables.{frame_tables}
use Rattle.goal_evaluator.specs.Evaluating.{NestedTrees, evaluation}
use Rattle.goal_evaluator.specs.Frames.{begun}
use Rattle.goal_evaluator.specs.Trial.{SpecTrees, candidate}
use Rattle.goal_evaluator.specs.Fitting.{AreOver, IsGoalOver, IsValueOver}
use Rattle.goal_evaluator.specs.RoundLaws.{in_rounds}

-- the values of the canonical variables in a candidate's terms: those of the goal, then the candidate's own
abbrev pub labels_of : List CanonicalVarKind → List CanonicalVarKind → List Label
labels_of kinds own = (fresh (begin kinds) own).labels

-- the same equation, of terms over these variables
pub record AreOneEquation (labels : List Label) (e : Equation) (f : Trees × Trees) : Type 0 where
  pub left_over : IsValueOver labels e.left
  pub right_over : IsValueOver labels e.right
  pub left_is : e.left.trees ≡ f.0
  pub right_is : e.right.trees ≡ f.1

-- the same nested goal, over these variables, with the same kind of step
pub record AreOnePremise (coinductive : Bool) (labels : List Label) (n : Nested) (m : NestedTrees) : Type 0 where
  pub over : IsGoalOver labels m.goal
  pub goal_is : n.goal ≡ m.goal
  pub step_is : n.coinductive ≡ is_coinductive_step coinductive m.source

-- the same candidate, of a goal whose variables are of these kinds
pub record AreOneCandidate (coinductive : Bool) (kinds : List CanonicalVarKind) (x : Spec (workings frame_tables)) (y : SpecTrees) : Type 0 where
  pub kinds_are : x.kinds ≡ y.kinds
  pub equations : Pairwise (AreOneEquation (labels_of kinds y.kinds)) x.equations y.equations
  pub constraints_over : AreOver (labels_of kinds y.kinds) y.constraints
  pub constraints_are : x.regions ≡ y.constraints
  pub nested : Pairwise (AreOnePremise coinductive (labels_of kinds y.kinds)) x.nested y.nested
  pub certainty_is : x.certainty ≡ y.certainty

-- if the responses fit their goals, both wait for the same nested goal, or both end with the same response, or both fail
abbrev pub CandidatesAreOne : Type 0
CandidatesAreOne =
    (mode : TypingMode) (coinductive : Bool) (kinds : List CanonicalVarKind) (x : Spec (workings frame_tables)) (y : SpecTrees) (answers others : List (Option AnswerTrees))
    → AreOneCandidate coinductive kinds x y
    → AreAnswers (operations frame_tables) (evaluation mode) (in_rounds mode coinductive kinds (labels_of kinds y.kinds)) (Frames.candidate (workings frame_tables) FIXPOINT_STEP_LIMIT (begin kinds) x) answers others
    → Runs (operations frame_tables) (evaluation mode) (in_rounds mode coinductive kinds (labels_of kinds y.kinds)) (λ (a b : Option AnswerTrees). a ≡ b)
    (run (Frames.candidate (workings frame_tables) FIXPOINT_STEP_LIMIT (begin kinds) x) answers) (run (candidate mode (begun kinds) y) others)
