-- Errors of equations as errors of root goals.
use Rattle.infer_table.specs.declared.certainty.EqError.{EqError}
use Rattle.infer_table.specs.declared.certainty.EqError.TheVariants as Eq
use Rattle.solver_graph.specs.declared.outcome.RootError.{RootError}
use Rattle.solver_graph.specs.declared.outcome.RootError.TheVariants as Root

abbrev pub error_of_equation : EqError → RootError
error_of_equation Eq.NoSolution = Root.NoSolution
error_of_equation (Eq.Fault fault) = Root.Fault fault
