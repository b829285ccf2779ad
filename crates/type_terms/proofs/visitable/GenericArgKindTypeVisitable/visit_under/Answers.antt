use Rattle.type_terms.proofs.VisitFacts.{visits-one}
use Rattle.type_terms.proofs.visitable.GenericArgKindTypeVisitable.visit_under.Goals as goal

pub returns-clause-visited : goal.returns-clause-visited
returns-clause-visited g c = visits-one c.visit_arg.ensures.visited
