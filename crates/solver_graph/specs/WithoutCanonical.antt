-- Evaluations never put canonical variables into a table.
use Rattle.std.specs.Prelude.{◌≡◌, Some}
use Rattle.infer_table.specs.Canonical.{GoalTrees}
use Rattle.infer_table.specs.Unification.{TableTrees}
use Rattle.infer_table.specs.Responses.{AnswerTrees}
use Rattle.infer_table.specs.WithoutCanonical.{HaveNoCanonical}
use Rattle.goal_evaluator.specs.TableAnswers.{put_into}
use Rattle.solver_graph.specs.Roots.{values_in}

-- if a table has no canonical variables, it has none after an evaluation, whatever the goal and the response
abbrev pub EvaluationsKeepOut : Type 0
EvaluationsKeepOut = (t u : TableTrees) (g : GoalTrees) (a : AnswerTrees) → HaveNoCanonical t.bindings → put_into t (values_in g) a ≡ Some u → HaveNoCanonical u.bindings
