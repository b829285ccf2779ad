use Rattle.type_terms.specs.Visits.{ended_each}
use Rattle.orphan_check.proofs.first_input_type.IsFirstInputTypeTypeVisitable.visit_under.Goals as goal

pub returns-clause-visited : goal.returns-clause-visited
returns-clause-visited g c = ended_each
