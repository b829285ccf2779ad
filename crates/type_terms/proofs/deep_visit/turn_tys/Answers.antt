use Rattle.type_terms.specs.Visits.{ended, next_each}
use Rattle.type_terms.proofs.PendingFacts.{tys-empty}
use Rattle.type_terms.proofs.deep_visit.turn_tys.Goals as goal

pub returns-in-empty-clause-follows : goal.returns-in-empty-clause-follows
returns-in-empty-clause-follows g c = λ x r h. rw (tys-empty c.args.cx.now.entries c.args.tys.now c.in-empty.len_below) (next_each ended h)
