use Rattle.std.proofs.Common.{None}
use Rattle.type_terms.specs.Visits.{ended_each}
use Rattle.type_terms.proofs.PendingFacts.{ahead-none}
use Rattle.type_terms.proofs.deep_visit.run.Goals as goal

pub returns-in-None-clause-visited : goal.returns-in-None-clause-visited
returns-in-None-clause-visited g c = c.loop.invariant.2 _ None (rw (ahead-none c.loop.path.todo.items _ c.loop.path.todo.ok.0 c.in-None.ensures.cases.0) ended_each)
