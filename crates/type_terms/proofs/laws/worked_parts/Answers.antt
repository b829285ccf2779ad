use Rattle.type_terms.proofs.PartLaws.{four-impls-are-enough, same-rules-are-not-enough}
use Rattle.type_terms.proofs.laws.worked_parts.Goals as goal

pub returns-clause-enough : goal.returns-clause-enough
returns-clause-enough c = four-impls-are-enough

pub returns-clause-same : goal.returns-clause-same
returns-clause-same c = same-rules-are-not-enough
