-- Errors of equations as errors of evaluations.
use Rattle.infer_table.specs.declared.certainty.EqError.{EqError}
use Rattle.infer_table.specs.declared.certainty.EqError.TheVariants as Eq
use Rattle.goal_evaluator.specs.declared.error.EvalError.{EvalError}
use Rattle.goal_evaluator.specs.declared.error.EvalError.TheVariants.{NoSolution, Fault}

abbrev pub eval_error : EqError → EvalError
eval_error Eq.NoSolution = NoSolution
eval_error (Eq.Fault fault) = Fault fault
