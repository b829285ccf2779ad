use Rattle.solver_completeness.proofs.NestedFacts as Lemmas
use Rattle.solver_completeness.proofs.any_handler.premises_are_asked.Goals as goal

pub returns : goal.returns
returns g c = let x = g.E.ExactPrograms in λ begin v specs ways are determined held. Lemmas.premises-asked x.tables begin v x.Holds specs ways are determined held
