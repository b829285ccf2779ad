use Rattle.solver_completeness.proofs.Rows as Lemmas
use Rattle.solver_completeness.proofs.rows_are_ways.Goals as goal

pub returns : goal.returns
returns g m = Lemmas.rows-are-ways m
