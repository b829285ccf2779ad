use Rattle.candidate_assembly.proofs.WellDeclared.{well-declared-have-candidates}
use Rattle.candidate_assembly.proofs.laws.well_declared_have_candidates.Goals as goal

pub returns : goal.returns
returns g es = well-declared-have-candidates es
