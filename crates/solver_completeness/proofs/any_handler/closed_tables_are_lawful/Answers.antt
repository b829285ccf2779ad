use Rattle.solver_completeness.proofs.ClosedLaws.{closed_tables_are_lawful}
use Rattle.solver_completeness.proofs.any_handler.closed_tables_are_lawful.Goals as goal

pub returns : goal.returns
returns c = closed_tables_are_lawful
