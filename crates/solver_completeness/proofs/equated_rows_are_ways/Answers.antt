use Rattle.solver_completeness.proofs.EquatedRows as Lemmas
use Rattle.solver_completeness.proofs.equated_rows_are_ways.Goals as goal

pub returns : goal.returns
returns g m = Lemmas.equated-rows-are-ways m
