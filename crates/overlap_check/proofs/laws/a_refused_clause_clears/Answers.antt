use Rattle.overlap_check.proofs.Contracts.{refused-clears}
use Rattle.overlap_check.proofs.laws.a_refused_clause_clears.Goals as goal

pub returns : goal.returns
returns c = refused-clears
