use Rattle.type_terms.specs.Visits.{ended, next_each}
use Rattle.type_terms.proofs.PendingFacts.{args-empty}
use Rattle.type_terms.proofs.deep_visit.turn_args.Goals as goal

pub returns-in-empty-clause-follows : goal.returns-in-empty-clause-follows
returns-in-empty-clause-follows g c = λ x r h. rw (args-empty c.args.cx.now.entries c.args.args.now c.in-empty.len_below) (next_each ended h)
